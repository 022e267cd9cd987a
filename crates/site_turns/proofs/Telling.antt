-- What is told of the site as it stands.
use Rattle.std.proofs.Common.{◌≡◌, List, refl, sym, ap, subst}
use Rattle.outside.specs.declared.disk.Disk as disk
use Rattle.outside.specs.declared.devices.Words as words
use Rattle.outside.specs.declared.clock.Clock as clock
use Rattle.deed_words.specs.declared.entry.Entry.{Entry}
use Rattle.site_store.specs.declared.store.Store.{Store}
use Rattle.site_store.specs.Open.{IsOpen}
use Rattle.site_store.specs.States.{State}
use Rattle.site_answers.specs.Saying.{Answer, IsSaid}
use Rattle.site_turns.specs.Answering.{Tells, history_at}
use Rattle.site_turns.specs.Origins.{desk_notes, origin_of}
use Rattle.site_turns.proofs.Stepped.{stands_at}

pub told_now : {D C W : Type 0} (g : disk.Ghosts D) (k : clock.Ghosts C) (w : words.Ghosts W) (s : Store D C W g) → IsOpen g k w s → (answer : List Entry → Answer) (said : Answer) → IsSaid (answer s.site.history) said
    → Tells (answer (history_at (origin_of g k w s) (desk_notes s))) (desk_notes s) (desk_notes s) said
told_now g k w s opens answer said is = (refl, subst (λ (h : List Entry). IsSaid (answer h) said) (sym (ap (λ (x : State). x.history) (stands_at g k w s opens))) is)
