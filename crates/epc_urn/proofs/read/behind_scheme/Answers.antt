use Rattle.std.proofs.lemmas.Slice.Eq.{strip_prefix_is}
use Rattle.std.proofs.lemmas.Bool.Decides.{Decides-eqb}
use Rattle.epc_urn.proofs.Schemes.{is_behind}
use Rattle.epc_urn.proofs.read.behind_scheme.Goals as goal

pub returns : goal.returns
returns c = is_behind c.args.scheme.now c.args.text.now c.strip_prefix.result (strip_prefix_is Decides-eqb c.args.text.now c.args.scheme.now c.strip_prefix.result c.strip_prefix.ensures.cases)
