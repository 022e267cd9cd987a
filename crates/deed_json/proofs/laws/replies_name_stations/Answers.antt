use Rattle.deed_json.proofs.Stationed.{reply_fits, all_fit, kept_fits}
use Rattle.deed_json.proofs.laws.replies_name_stations.Goals as goal

pub returns-clause-entry : goal.returns-clause-entry
returns-clause-entry c = reply_fits

pub returns-clause-history : goal.returns-clause-history
returns-clause-history c = all_fit c.worlds_are_proper.ensures.entry

pub returns-clause-kept : goal.returns-clause-kept
returns-clause-kept c = kept_fits c.worlds_are_proper.ensures.entry
