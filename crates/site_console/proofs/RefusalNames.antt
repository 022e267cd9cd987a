-- A log names a rule as a reply does.
use Rattle.std.proofs.Common.{[], ◌∷◌, codes, refl}
use Rattle.serde_json.specs.Data.{string}
use Rattle.deed_words.specs.Setups.{Setup}
use Rattle.deed_words.specs.declared.rule.Rule.{Rule}
use Rattle.deed_words.specs.declared.rule.Rule.TheVariants as rule
use Rattle.deed_json.specs.Objects.{whole}
use Rattle.deed_json.specs.Replies.{asked_at, condition_word, finding_data, have_at, index_at, line_at, row_at, rule_data, told_of_finding, what_word}
use Rattle.site_console.specs.Logs.{rule_name}
use Rattle.site_console.specs.Refusals.{IsRefusalBy}

pub named : (site : Setup) (broken : Rule) → IsRefusalBy (rule_name broken) (rule_data site broken)
unfolding rule_name rule_data finding_data
named site rule.RoleForbids = record { told = []; is = refl }
named site (rule.UnknownProduct row) = record { told = (row_at row ∷ []); is = refl }
named site (rule.OrderConflict row) = record { told = (row_at row ∷ []); is = refl }
named site rule.UnknownBatch = record { told = []; is = refl }
named site rule.UnknownUnit = record { told = []; is = refl }
named site rule.BatchNotStarted = record { told = []; is = refl }
named site rule.BatchStarted = record { told = []; is = refl }
named site rule.BatchClosed = record { told = []; is = refl }
named site rule.UnitVoid = record { told = []; is = refl }
named site rule.UnitSealed = record { told = []; is = refl }
named site rule.UnitNotSealed = record { told = []; is = refl }
named site (rule.CountOutOfRange most) = record { told = ((codes "most", whole most) ∷ []); is = refl }
named site (rule.SiteFull full have) = record { told = ((codes "what", string (what_word full)) ∷ have_at have ∷ []); is = refl }
named site (rule.PoolThin asked have) = record { told = (asked_at asked ∷ have_at have ∷ []); is = refl }
named site (rule.FewFresh have) = record { told = (have_at have ∷ []); is = refl }
named site rule.SsccSpent = record { told = []; is = refl }
named site (rule.RepeatedInRequest index) = record { told = (index_at index ∷ []); is = refl }
named site (rule.UnknownSerial index) = record { told = (index_at index ∷ []); is = refl }
named site (rule.OtherBatch index) = record { told = (index_at index ∷ []); is = refl }
named site (rule.WrongLevel index) = record { told = (index_at index ∷ []); is = refl }
named site (rule.WrongState index state) = record { told = (index_at index ∷ (codes "state", string (condition_word state)) ∷ []); is = refl }
named site (rule.LentToOther index line) = record { told = (index_at index ∷ line_at site line ∷ []); is = refl }
named site (rule.HasParent index parent) = record { told = (index_at index ∷ (codes "parent", string parent) ∷ []); is = refl }
named site (rule.NotChild index) = record { told = (index_at index ∷ []); is = refl }
named site (rule.UnitFull have room) = record { told = (have_at have ∷ (codes "room", whole room) ∷ []); is = refl }
named site (rule.UnitNotEmpty have) = record { told = (have_at have ∷ []); is = refl }
named site rule.NothingInside = record { told = []; is = refl }
named site (rule.NotAccounted found) = record { told = told_of_finding site found; is = refl }
