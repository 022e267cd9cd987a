use Rattle.gate_journal.proofs.Pieces.{part_of}
use Rattle.gate_journal.proofs.reader.Reader.part.Goals as goal

pub returns-clause-part : goal.returns-clause-part
returns-clause-part g c d told =
    part_of d c.args.self.now.bytes.items c.deref.result.now c.args.self.now.at c.args.at c.args.count c.deref.ensures.value (c.args.self.now.read d told) c.requires.begun c.requires.reached
