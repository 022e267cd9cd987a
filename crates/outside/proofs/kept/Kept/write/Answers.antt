use Rattle.std.proofs.Common.{◌≡◌, List, ℕ, length, subst, OnOk, OnErr, inl}
use Rattle.outside.specs.Disks.{overwritten}
use Rattle.outside.proofs.Images.{named_follows, named_leads, written_or_not, on_ok, on_err}
use Rattle.outside.proofs.PastMoments.{elapses_to}
use Rattle.outside.proofs.kept.Kept.write.Goals as goal

pub returns-clause-time : goal.returns-clause-time
returns-clause-time c =
    elapses_to c.args.self.now.past.items c.name.new.self.past.items c.args.self.now.bytes.items c.overwrite.new.bytes.items c.args.self.now.unsynced c.name.new.self.unsynced c.in_ok-name.ensures.past

pub returns-clause-images : goal.returns-clause-images
returns-clause-images c =
    let same = c.name.ensures.bytes in
    let ok = subst (λ (l : List ℕ). OnOk c.overwrite.result (c.overwrite.new.bytes.items ≡ overwritten c.args.at c.args.piece.now l)) same c.overwrite.ensures.ok in
    let err = subst (λ (l : List ℕ). OnErr c.overwrite.result (c.overwrite.new.bytes.items ≡ l)) same c.overwrite.ensures.err in
    named_follows c.args.at (length c.args.piece.now) c.args.self.now.bytes.items c.overwrite.new.bytes.items c.args.self.now.unsynced c.name.new.self.unsynced c.in_ok-name.ensures.ok
    (written_or_not c.overwrite.result c.args.at c.args.piece.now c.args.self.now.bytes.items c.overwrite.new.bytes.items c.requires ok err)

pub returns-clause-any_bytes : goal.returns-clause-any_bytes
returns-clause-any_bytes c =
    on_ok c.overwrite.result
    (named_leads c.args.at (length c.args.piece.now) c.args.self.now.bytes.items c.overwrite.new.bytes.items c.args.self.now.unsynced c.name.new.self.unsynced c.in_ok-name.ensures.ok)

pub returns-clause-any_bytes_or_none : goal.returns-clause-any_bytes_or_none
returns-clause-any_bytes_or_none c =
    on_err c.overwrite.result
    (inl (named_leads c.args.at (length c.args.piece.now) c.args.self.now.bytes.items c.overwrite.new.bytes.items c.args.self.now.unsynced c.name.new.self.unsynced c.in_ok-name.ensures.ok))
