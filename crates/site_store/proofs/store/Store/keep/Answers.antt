use Rattle.std.proofs.Common.{◌≡◌, ◌∙◌, ◌+◌, ◌-◌, ◌++◌, ◌∷◌, [], ℕ, length, ap, refl, subst, arith, vec_len, vec_capacity}
use Rattle.deed_words.specs.declared.entry.Entry.{Entry}
use Rattle.entry_bytes.specs.Kept.{IsKept as IsKeptEntry}
use Rattle.entry_bytes.specs.Spelling.{entry_bytes}
use Rattle.entry_bytes.specs.Groups.{group_size}
use Rattle.site_store.specs.Noting.{dones}
use Rattle.site_store.specs.Standing.{entries_of, noted_in}
use Rattle.site_core.specs.declared.planned.Planned.{Planned}
use Rattle.site_store.proofs.Back.{entries_push}
use Rattle.site_store.proofs.Entering.{asked_is, frame_grows, full_keeps, goes_on}
use Rattle.site_store.proofs.Finishing.{long_entries}
use Rattle.site_store.proofs.store.Store.keep.Goals as goal

pub returns-then-not-fits-clause-kept : goal.returns-then-not-fits-clause-kept
returns-then-not-fits-clause-kept g c =
    let s = c.args.self.now in
    let gr = c.args.group.now in
    let front = entries_of gr.committed.items in
    let bytes = c.in-Ok.ensures.bytes ∙ ap entry_bytes c.entry.ensures in
    let asked = asked_is front c.args.planned.entry gr.frame c.in-Ok.bytes.items c.requires.trying.frame_is bytes in
    let told : c.len.result + c.len-2.result ≡ group_size (front ++ c.args.planned.entry ∷ []) = grind (arith, c.len.ensures.length, c.len-2.ensures, asked) in
    full_keeps s.journal.end s.site.history front (noted_in gr.rows.items) c.args.worker c.args.planned c.full.result c.end-end.result (c.len.result + c.len-2.result) c.full.ensures c.end-end.ensures told (grind (arith, c.if-not-fits.ensures.full, c.if-not-fits.true, c.end-end.ensures))

pub returns-clause-kept : goal.returns-clause-kept
returns-clause-kept g c =
    let s = c.args.self.now in
    let gr = c.args.group.now in
    let e = c.args.planned.entry in
    let front = entries_of gr.committed.items in
    let bytes = c.in-Ok.ensures.bytes ∙ ap entry_bytes c.entry.ensures in
    let asked = asked_is front e gr.frame c.in-Ok.bytes.items c.requires.trying.frame_is bytes in
    record {
      new = e ∷ [];
      keeps = (c.in-Ok-copy.ensures ∙ c.reply.ensures, grind (arith, c.if-not-fits.ensures.fits, c.if-not-fits.false, c.end-end.ensures, c.len.ensures.length, c.len-2.ensures, asked), refl);
      history_is = c.commit.ensures.history;
      front_is = ap entries_of (c.push_reserved.ensures.items ∙ ap (λ (p : Planned). gr.committed.items ++ p ∷ []) c.commit.ensures.committed) ∙ entries_push gr.committed.items c.args.planned;
      noted_is = c.note_done.ensures.noted ∙ ap (λ (n : ℕ). noted_in gr.rows.items ++ dones c.args.worker n (c.entry-2.result.now ∷ [])) c.entries-place.ensures ∙ ap (λ (f : Entry). noted_in gr.rows.items ++ dones c.args.worker (length s.site.history) (f ∷ [])) c.entry-2.ensures;
    }

pub returns-clause-trying : goal.returns-clause-trying
returns-clause-trying g c =
    let s = c.args.self.now in
    let gr = c.args.group.now in
    let e = c.args.planned.entry in
    let front = entries_of gr.committed.items in
    let bytes = c.in-Ok.ensures.bytes ∙ ap entry_bytes c.entry.ensures in
    let asked = asked_is front e gr.frame c.in-Ok.bytes.items c.requires.trying.frame_is bytes in
    let long = long_entries gr.committed.items in
    let frame = frame_grows front e gr.frame c.grow.new.self c.deref.result.now _ c.requires.trying.frame_is (c.deref.ensures.value ∙ bytes) (grind (arith, c.len-3.ensures, long, c.requires.few)) c.in-Ok-grow.ensures.ok in
    goes_on (g.D.Disk.image s.journal.disk) s.journal.end s.journal.pending gr.base.value s.site c.commit.new.self gr.committed.items c.push_reserved.new.self.items gr.frame c.grow.new.self (length gr.rows.items) (length c.note_done.new.log.items) (vec_capacity s.log - vec_len s.log) (vec_capacity s.pending - vec_len s.pending) c.args.planned
    c.requires.trying c.commit.ensures.setup c.commit.ensures.history c.commit.ensures.content (c.push_reserved.ensures.items ∙ ap (λ (p : Planned). gr.committed.items ++ p ∷ []) c.commit.ensures.committed) c.requires.next (subst IsKeptEntry c.entry.ensures c.in-Ok.ensures.kept) c.requires.few frame
    (grind (arith, c.if-not-fits.ensures.fits, c.if-not-fits.false, c.end-end.ensures, c.len.ensures.length, c.len-2.ensures, asked)) (grind (arith, c.note_done.ensures.len)) c.requires.place.notes c.requires.place.may_pend
