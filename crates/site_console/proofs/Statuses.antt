-- The statuses of the program.
use Rattle.std.proofs.Common.{◌≡◌, ◌⊎◌, ℕ, true, false, List, Option, None, Some, inl, inr, refl, sym, subst, ◌∙◌, ap}
use Rattle.outside.specs.declared.disk.Disk as disk
use Rattle.outside.specs.declared.devices.Words as words
use Rattle.outside.specs.declared.clock.Clock as clock
use Rattle.site_store.specs.declared.store.Devices.{Devices}
use Rattle.command_words.specs.declared.command.Command.{Command}
use Rattle.command_words.specs.declared.command.Command.TheVariants.{Init, Run, Report, Export, Check, Log, Simulate, Serve}
use Rattle.site_console.specs.declared.ending.Ending.{Ending}
use Rattle.site_console.specs.declared.ending.Ending.TheVariants.{Done, BadWords, Unreadable, JournalThere, NoJournal, JournalBad, ReadFault, WriteFault, DiskFault, UnknownBatch, NoMemory, DoorFault, TooLong}
use Rattle.site_console.specs.Commands.{is_refused}
use Rattle.site_console.specs.Endings.{status_of}
use Rattle.site_console.specs.Files.{IsWhole}
use Rattle.site_console.specs.Inits.{Unread, Faulty, Opens}
use Rattle.site_console.specs.Sessions.{NotLoaded, RanFrom}
use Rattle.site_console.specs.Told.{Stream}
use Rattle.site_console.specs.Top.{IsStatus, Obeys, Session}
use Rattle.site_console.specs.declared.look.Look.TheVariants as look
use Rattle.site_console.proofs.Ends.{is_apart, run_apart, load_apart, make_apart}
use Rattle.site_console.proofs.Looking.{look_apart}
use Rattle.site_console.proofs.SimEnded.{sim_apart}

-- 12 is that of doors, which no command here has
one : (ending : Ending) → (ending ≡ DoorFault → ⊥) → IsStatus (status_of ending)
one Done other = inl refl
one BadWords other = inr (inl refl)
one (Unreadable kind) other = inr (inr (inl refl))
one JournalThere other = inr (inr (inr (inl refl)))
one NoJournal other = inr (inr (inr (inr (inl refl))))
one (JournalBad place) other = inr (inr (inr (inr (inr (inl refl)))))
one ReadFault other = inr (inr (inr (inr (inr (inr (inl refl))))))
one WriteFault other = inr (inr (inr (inr (inr (inr (inr (inl refl)))))))
one DiskFault other = inr (inr (inr (inr (inr (inr (inr (inr (inl refl))))))))
one UnknownBatch other = inr (inr (inr (inr (inr (inr (inr (inr (inr (inl refl)))))))))
one NoMemory other = inr (inr (inr (inr (inr (inr (inr (inr (inr (inr (inl refl))))))))))
one DoorFault other = absurd (other refl)
one TooLong other = inr (inr (inr (inr (inr (inr (inr (inr (inr (inr (inr refl))))))))))

pub is_status : (ending : Ending) (n : ℕ) → (ending ≡ DoorFault → ⊥) → n ≡ status_of ending → IsStatus n
is_status ending n other e = subst IsStatus (sym e) (one ending other)

-- 2 is that of bad words alone
two : (ending : Ending) → status_of ending ≡ 2 → ending ≡ BadWords
two BadWords e = refl
two Done e = absurd cc
two (Unreadable kind) e = absurd cc
two JournalThere e = absurd cc
two NoJournal e = absurd cc
two (JournalBad place) e = absurd cc
two ReadFault e = absurd cc
two WriteFault e = absurd cc
two DiskFault e = absurd cc
two UnknownBatch e = absurd cc
two NoMemory e = absurd cc
two DoorFault e = absurd cc
two TooLong e = absurd cc

module _ {D C W : Type 0} (g : disk.Ghosts D) (k : clock.Ghosts C) (w : words.Ghosts W) where
  not_run : (old new : Devices D C W) (a b c d : Stream) (ending : Ending) → is_apart ending ≡ true → NotLoaded g old new a b c d ending ⊎ RanFrom g k w old new a b c d ending → ⊥
  not_run old new a b c d ending e (inl s) = load_apart (g.content old.disk) ending e s.refuses
  not_run old new a b c d ending e (inr s) = run_apart s.result (ap is_apart (sym s.ending_is) ∙ e)

  unread : (ending : Ending) → is_apart ending ≡ true → (ending ≡ ReadFault) ⊎ (ending ≡ NoMemory) → ⊥
  unread ending e (inl is) = let no_read : false ≡ true = sym (ap is_apart is) ∙ e in cc
  unread ending e (inr is) = let no_read : false ≡ true = sym (ap is_apart is) ∙ e in cc

  not_init : (old new : Devices D C W) (left : Option (List ℕ)) (bytes : List ℕ) (c d : Stream) (ending : Ending) → is_apart ending ≡ true → Unread old new c d ending ⊎ (IsWhole left bytes × (Faulty bytes old new c d ending ⊎ Opens g bytes old new c d ending)) → ⊥
  not_init old new left bytes c d ending e (inl s) = unread ending e s.why
  not_init old new left bytes c d ending e (inr (whole, inl s)) = let no_file : false ≡ true = sym (ap is_apart s.ending_is) ∙ e in cc
  not_init old new left bytes c d ending e (inr (whole, inr s)) = make_apart g s.site old.disk new.disk ending s.makes.put e s.makes.ends

  -- the words of no other session are refused
  session_refused : (command : Option Command) (old new : Devices D C W) (s s' i i' o o' : Stream) (ending : Ending) → Session g k w command old new s s' i i' o o' ending → is_apart ending ≡ true → is_refused command ≡ true
  session_refused None old new s s' i i' o o' ending session e = refl
  session_refused (Some Init) old new s s' i i' o o' ending session e = absurd (not_init old new s'.bytes session.1.bytes o o' ending e session.1.comes)
  session_refused (Some Run) old new s s' i i' o o' ending session e = absurd (not_run old new i i' o o' ending e session.1.comes)
  session_refused (Some (Report batch)) old new s s' i i' o o' ending session e = absurd (look_apart g (look.Report batch) old new i o o' ending e session.2)
  session_refused (Some (Export batch from count)) old new s s' i i' o o' ending session e = absurd (look_apart g (look.Export batch from count) old new i o o' ending e session.2)
  session_refused (Some Check) old new s s' i i' o o' ending session e = absurd (look_apart g look.Check old new i o o' ending e session.2)
  session_refused (Some (Log from count)) old new s s' i i' o o' ending session e = absurd (look_apart g (look.Log from count) old new i o o' ending e session.2)
  session_refused (Some (Simulate seed count)) old new s s' i i' o o' ending session e = absurd (sim_apart g seed count old new o o' ending e session.2)
  session_refused (Some (Serve words)) old new s s' i i' o o' ending session e = refl

  pub bad_words : (command : Option Command) (old new : Devices D C W) (s s' i i' o o' : Stream) (ending : Ending) (n : ℕ) → n ≡ status_of ending → Obeys g k w command old new s s' i i' o o' ending → n ≡ 2 → is_refused command ≡ true
  bad_words command old new s s' i i' o o' ending n is (inl wants) e = absurd (let eleven = sym (ap status_of wants.0) ∙ sym is ∙ e in cc)
  bad_words command old new s s' i i' o o' ending n is (inr session) e = session_refused command old new s s' i i' o o' ending session (ap is_apart (two ending (sym is ∙ e)))

  -- where words are refused, the session is none
  session_ends : (command : Option Command) (old new : Devices D C W) (s s' i i' o o' : Stream) (ending : Ending) → Session g k w command old new s s' i i' o o' ending → is_refused command ≡ true → ending ≡ BadWords
  session_ends None old new s s' i i' o o' ending session e = session.0
  session_ends (Some Init) old new s s' i i' o o' ending session e = absurd cc
  session_ends (Some Run) old new s s' i i' o o' ending session e = absurd cc
  session_ends (Some (Report batch)) old new s s' i i' o o' ending session e = absurd cc
  session_ends (Some (Export batch from count)) old new s s' i i' o o' ending session e = absurd cc
  session_ends (Some Check) old new s s' i i' o o' ending session e = absurd cc
  session_ends (Some (Log from count)) old new s s' i i' o o' ending session e = absurd cc
  session_ends (Some (Simulate seed count)) old new s s' i i' o o' ending session e = absurd cc
  session_ends (Some (Serve words)) old new s s' i i' o o' ending session e = session.0

  pub refused_ends : (command : Option Command) (old new : Devices D C W) (s s' i i' o o' : Stream) (ending : Ending) (n : ℕ) → n ≡ status_of ending → Obeys g k w command old new s s' i i' o o' ending → is_refused command ≡ true → (n ≡ 2) ⊎ (n ≡ 11)
  refused_ends command old new s s' i i' o o' ending n is (inl wants) e = inr (is ∙ ap status_of wants.0)
  refused_ends command old new s s' i i' o o' ending n is (inr session) e = inl (is ∙ ap status_of (session_ends command old new s s' i i' o o' ending session e))

  -- no session here ends by a door
  pub no_door : (command : Option Command) (old new : Devices D C W) (s s' i i' o o' : Stream) (ending : Ending) → Obeys g k w command old new s s' i i' o o' ending → ending ≡ DoorFault → ⊥
  no_door command old new s s' i i' o o' ending (inl wants) e = let both : NoMemory ≡ DoorFault = sym wants.0 ∙ e in cc
  no_door command old new s s' i i' o o' ending (inr session) e =
      let both : BadWords ≡ DoorFault = sym (session_ends command old new s s' i i' o o' ending session (session_refused command old new s s' i i' o o' ending session (ap is_apart e))) ∙ e in cc
