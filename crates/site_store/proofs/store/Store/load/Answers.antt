use Rattle.std.proofs.Common.{◌∙◌, ◌-◌, List, sym, subst, ap, ⊎_elim, vec_len, vec_capacity, Err}
use Rattle.gate_journal.specs.Readings.{bytes_of}
use Rattle.site_store.specs.Standing.{IsSound, in_order, noted_in}
use Rattle.site_core.specs.declared.planned.Planned.{Planned}
use Rattle.site_store.proofs.Replaying.{loaded_sound, no_setup_bad, spoilt_bad}
use Rattle.site_store.proofs.Serving.{first_served}
use Rattle.site_store.proofs.Turning.{first_noted}
use Rattle.site_store.proofs.Counting.{first_caused}
use Rattle.site_store.proofs.store.Store.load.Goals as goal

pub returns-in-Ok-site_of-clause-open : goal.returns-in-Ok-site_of-clause-open
returns-in-Ok-site_of-clause-open g c =
    let j = c.in-Ok.found.0 in
    let l = c.in-Ok.found.1 in
    let r = c.in-Ok-site_of.ensures.replayed in
    let sound = subst (λ (ps : List Planned). IsSound (g.D.Disk.image j.disk) j.end j.pending c.in-Ok-site_of.site (in_order ps) (vec_capacity c.new-in-Ok-site_of.result - vec_len c.new-in-Ok-site_of.result)) (sym c.new.ensures.items)
    (loaded_sound (g.D.Disk.image j.disk) j.end j.pending c.in-Ok-site_of.site (vec_capacity c.new-in-Ok-site_of.result - vec_len c.new-in-Ok-site_of.result) l.site (bytes_of l.payloads) r.0 r.1 c.in-Ok.ensures.settled c.in-Ok.ensures.found.end_is) in
    let s = c.in-Ok-site_of.site in
    let was = sym c.of-opened.ensures in
    record {
      sound = sound;
      noted = first_noted c.of-opening.result.value.history c.new-in-Ok-site_of.result.items s c.new.result.items c.new-in-Ok-site_of.ensures.items c.new.ensures.items (ap (λ v. v.history) c.of-opening.ensures);
      served = first_served c.new-in-Ok-site_of.result.items s c.new.result.items c.new-in-Ok-site_of.ensures.items c.new.ensures.items;
      caused = first_caused (g.D.Disk.disk_faults c.of-opened.result.value.disk) (g.D.Disk.disk_faults j.disk) (g.C.Clock.clock_faults c.of-opened.result.value.clock) (g.C.Clock.clock_faults c.args.devices.clock) (g.W.Words.word_faults c.of-opened.result.value.words) (g.W.Words.word_faults c.args.devices.words) (g.C.Clock.moments_left c.of-opened.result.value.clock) (g.C.Clock.moments_left c.args.devices.clock) (g.W.Words.words_left c.of-opened.result.value.words) (g.W.Words.words_left c.args.devices.words) (noted_in c.new-in-Ok-site_of.result.items)
          (ap noted_in c.new-in-Ok-site_of.ensures.items) (c.in-Ok.ensures.kept ∙ ap (λ v. g.D.Disk.disk_faults v.disk) was) (ap (λ v. g.C.Clock.clock_faults v.clock) was) (ap (λ v. g.W.Words.word_faults v.words) was) (ap (λ v. g.C.Clock.moments_left v.clock) was) (ap (λ v. g.W.Words.words_left v.words) was);
    }

pub returns-in-Err-site_of-clause-bad : goal.returns-in-Err-site_of-clause-bad
returns-in-Err-site_of-clause-bad g c place is d told =
    let j = c.in-Ok.found.0 in
    let l = c.in-Ok.found.1 in
    ⊎_elim (λ none. no_setup_bad (g.D.Disk.content c.args.devices.disk) l j.end place d c.in-Ok.ensures.found none.0 none.1 told)
    (λ spoilt. spoilt_bad (g.D.Disk.content c.args.devices.disk) l j.end place spoilt.0 d c.in-Ok.ensures.found spoilt.1 spoilt.2 told)
    (c.in-Err-site_of.ensures.bad place (ap Err is))
