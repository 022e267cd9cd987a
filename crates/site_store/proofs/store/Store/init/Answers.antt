use Rattle.std.proofs.Common.{◌⊎◌, inl, inr, ⊎_elim, ◌∙◌, ◌-◌, ℕ, List, ap, sym, subst, vec_len, vec_capacity}
use Rattle.entry_bytes.specs.Sites.{SpellsSetup}
use Rattle.outside.specs.Disks.{LeavesOnly}
use Rattle.outside.proofs.Moments.{weaker}
use Rattle.gate_journal.specs.Grammar.{IsFresh}
use Rattle.site_store.specs.Held.{IsFreshFor}
use Rattle.site_store.specs.Loads.{fault_of}
use Rattle.site_store.specs.Open.{HoldsSince}
use Rattle.site_store.specs.States.{all_of}
use Rattle.site_store.proofs.Making.{made_sound, fresh_for, until_fresh, or_until_fresh}
use Rattle.site_store.specs.Standing.{IsSound, in_order, noted_in, state_of}
use Rattle.site_core.specs.declared.planned.Planned.{Planned}
use Rattle.site_store.proofs.Serving.{first_served}
use Rattle.site_store.proofs.Turning.{first_noted}
use Rattle.site_store.proofs.Counting.{first_caused}
use Rattle.site_store.proofs.store.Store.init.Goals as goal

pub returns-in-Ok-clause-open : goal.returns-in-Ok-clause-open
returns-in-Ok-clause-open g c =
    let j = c.in-Ok.journal in
    let s = c.in-Some.site in
    let bytes = c.deref.result.now in
    let spelled : SpellsSetup c.args.setup bytes = subst (λ (b : List ℕ). SpellsSetup c.args.setup b) (sym c.deref.ensures.value) c.in-Some.ensures.spelled in
    let none = c.new.ensures.items in
    let sound = subst (λ (ps : List Planned). IsSound (g.D.Disk.image j.disk) j.end j.pending s (in_order ps) (vec_capacity c.new-in-Ok.result - vec_len c.new-in-Ok.result)) (sym none)
    (made_sound (g.D.Disk.image j.disk) j.end j.pending s (vec_capacity c.new-in-Ok.result - vec_len c.new-in-Ok.result) c.args.setup bytes c.in-Some.ensures.site.0 c.in-Some.ensures.site.1 spelled c.in-Ok.ensures.made c.in-Ok.ensures.end) in
    let was = sym c.of-opened.ensures in
    record {
      sound = sound;
      noted = first_noted c.of-opening.result.value.history c.new-in-Ok.result.items s c.new.result.items c.new-in-Ok.ensures.items none (ap (λ v. v.history) c.of-opening.ensures);
      served = first_served c.new-in-Ok.result.items s c.new.result.items c.new-in-Ok.ensures.items none;
      caused = first_caused (g.D.Disk.disk_faults c.of-opened.result.value.disk) (g.D.Disk.disk_faults j.disk) (g.C.Clock.clock_faults c.of-opened.result.value.clock) (g.C.Clock.clock_faults c.args.devices.clock) (g.W.Words.word_faults c.of-opened.result.value.words) (g.W.Words.word_faults c.args.devices.words) (g.C.Clock.moments_left c.of-opened.result.value.clock) (g.C.Clock.moments_left c.args.devices.clock) (g.W.Words.words_left c.of-opened.result.value.words) (g.W.Words.words_left c.args.devices.words) (noted_in c.new-in-Ok.result.items)
          (ap noted_in c.new-in-Ok.ensures.items) (c.in-Ok.ensures.kept ∙ ap (λ v. g.D.Disk.disk_faults v.disk) was) (ap (λ v. g.C.Clock.clock_faults v.clock) was) (ap (λ v. g.W.Words.word_faults v.words) was) (ap (λ v. g.C.Clock.moments_left v.clock) was) (ap (λ v. g.W.Words.words_left v.words) was);
    }

pub returns-in-Ok-clause-first_write : goal.returns-in-Ok-clause-first_write
returns-in-Ok-clause-first_write g c =
    let bytes = c.deref.result.now in
    let spelled : SpellsSetup c.args.setup bytes = subst (λ (b : List ℕ). SpellsSetup c.args.setup b) (sym c.deref.ensures.value) c.in-Some.ensures.spelled in
    until_fresh g.D.Disk.content g.D.Disk.image g.D.Disk.moment g.D.Disk.image_since c.args.setup bytes c.args.devices.disk c.in-Ok.journal.disk spelled c.in-Ok.ensures.first_write

pub returns-in-Err-clause-first_write_err : goal.returns-in-Err-clause-first_write_err
returns-in-Err-clause-first_write_err g c =
    let bytes = c.deref.result.now in
    let spelled : SpellsSetup c.args.setup bytes = subst (λ (b : List ℕ). SpellsSetup c.args.setup b) (sym c.deref.ensures.value) c.in-Some.ensures.spelled in
    or_until_fresh g.D.Disk.content g.D.Disk.image g.D.Disk.moment g.D.Disk.image_since c.args.setup bytes c.args.devices.disk c.in-Err.disk spelled c.in-Err.ensures.first_write_err

pub returns-in-Ok-clause-begun : goal.returns-in-Ok-clause-begun
returns-in-Ok-clause-begun g c =
    let j = c.in-Ok.journal in
    let s = c.in-Some.site in
    let bytes = c.deref.result.now in
    let spelled : SpellsSetup c.args.setup bytes = subst (λ (b : List ℕ). SpellsSetup c.args.setup b) (sym c.deref.ensures.value) c.in-Some.ensures.spelled in
    let start = c.args.devices.disk in
    let at_start : List ℕ → Type 0 = λ d. g.D.Disk.image start d ⊎ IsFreshFor c.args.setup d in
    let since : List ℕ → Type 0 = HoldsSince at_start s.setup c.of-opening.result.value.history (all_of (state_of s (in_order c.new.result.items))) in
    let run = weaker g.D.Disk.moment g.D.Disk.image_since start j.disk (λ d. g.D.Disk.image start d ⊎ IsFresh bytes d) since c.in-Ok.ensures.any_moment (λ d is. inl (⊎_elim (λ was. inl was) (λ fresh. inr (fresh_for c.args.setup bytes d spelled fresh)) is)) in
    subst (λ v. LeavesOnly g.D.Disk.moment g.D.Disk.image_since v.disk j.disk since) (sym c.of-opened.ensures) run

pub returns-in-Err-clause-untouched : goal.returns-in-Err-clause-untouched
returns-in-Err-clause-untouched g c other = c.in-Err.ensures.untouched (λ is. other (c.fault_of.ensures ∙ ap fault_of is))
