-- No reply has a float, and no answer that isn't kept.
use Rattle.std.proofs.Common.{◌≡◌, ℕ, List, [], ◌∷◌, false, refl}
use Rattle.std.specs.Prelude.{codes}
use Rattle.serde_json.specs.Written.{has_float, items_have_float}
use Rattle.deed_words.specs.Setups.{Setup}
use Rattle.deed_words.specs.declared.rule.Finding.{Finding}
use Rattle.deed_words.specs.declared.rule.Finding.TheVariants as finding
use Rattle.deed_words.specs.declared.rule.Rule.{Rule}
use Rattle.deed_words.specs.declared.rule.Rule.TheVariants as rule
use Rattle.deed_words.specs.declared.reply.Answer.{Answer}
use Rattle.deed_words.specs.declared.reply.Answer.TheVariants as answer
use Rattle.deed_words.specs.declared.reply.Reply.{Reply}
use Rattle.deed_words.specs.declared.reply.Reply.TheVariants as reply
use Rattle.deed_json.specs.Objects.{texts_of, numbers_of}
use Rattle.deed_json.specs.Replies.{finding_data, rule_data, answer_data, reply_data}
use Rattle.deed_json.specs.Unkept.{fault, told_of, unkept_data}
use Rattle.deed_json.specs.declared.deed_fault.DeedFault.{DeedFault}
use Rattle.deed_json.specs.declared.deed_fault.DeedFault.TheVariants as deed
use Rattle.deed_json.specs.declared.unkept.Unkept.{Unkept}
use Rattle.deed_json.specs.declared.unkept.Unkept.TheVariants as unkept

texts_have_no_float : (texts : List (List ℕ)) → items_have_float (texts_of texts) ≡ false
texts_have_no_float [] = refl
texts_have_no_float (text ∷ texts) = texts_have_no_float texts

numbers_have_no_float : (ns : List ℕ) → items_have_float (numbers_of ns) ≡ false
numbers_have_no_float [] = refl
numbers_have_no_float (n ∷ ns) = numbers_have_no_float ns

finding_has_no_float : (site : Setup) (found : Finding) → has_float (finding_data site found) ≡ false
unfolding finding_data
finding_has_no_float site (finding.StillLent serial) = refl
finding_has_no_float site (finding.StillRejected serial) = refl
finding_has_no_float site (finding.Unpacked serial) = refl
finding_has_no_float site (finding.UnitOpen sscc) = refl
finding_has_no_float site (finding.UnitLoose sscc) = refl
finding_has_no_float site (finding.NotDeclared line) = refl
finding_has_no_float site (finding.DeclaredDiffers line counted declared) = rw (numbers_have_no_float counted, numbers_have_no_float declared) refl

rule_has_no_float : (site : Setup) (broken : Rule) → has_float (rule_data site broken) ≡ false
unfolding rule_data
rule_has_no_float site rule.RoleForbids = refl
rule_has_no_float site (rule.UnknownProduct row) = refl
rule_has_no_float site (rule.OrderConflict row) = refl
rule_has_no_float site rule.UnknownBatch = refl
rule_has_no_float site rule.UnknownUnit = refl
rule_has_no_float site rule.BatchNotStarted = refl
rule_has_no_float site rule.BatchStarted = refl
rule_has_no_float site rule.BatchClosed = refl
rule_has_no_float site rule.UnitVoid = refl
rule_has_no_float site rule.UnitSealed = refl
rule_has_no_float site rule.UnitNotSealed = refl
rule_has_no_float site (rule.CountOutOfRange most) = refl
rule_has_no_float site (rule.SiteFull full have) = refl
rule_has_no_float site (rule.PoolThin asked have) = refl
rule_has_no_float site (rule.FewFresh have) = refl
rule_has_no_float site rule.SsccSpent = refl
rule_has_no_float site (rule.RepeatedInRequest index) = refl
rule_has_no_float site (rule.UnknownSerial index) = refl
rule_has_no_float site (rule.OtherBatch index) = refl
rule_has_no_float site (rule.WrongLevel index) = refl
rule_has_no_float site (rule.WrongState index state) = refl
rule_has_no_float site (rule.LentToOther index line) = refl
rule_has_no_float site (rule.HasParent index parent) = refl
rule_has_no_float site (rule.NotChild index) = refl
rule_has_no_float site (rule.UnitFull have room) = refl
rule_has_no_float site (rule.UnitNotEmpty have) = refl
rule_has_no_float site rule.NothingInside = refl
rule_has_no_float site (rule.NotAccounted found) = finding_has_no_float site found

answer_has_no_float : (site : Setup) (told : Answer) → has_float (answer_data site told) ≡ false
unfolding answer_data
answer_has_no_float site answer.Plain = refl
answer_has_no_float site (answer.Orders added already) = refl
answer_has_no_float site (answer.Listed serials) = rw (texts_have_no_float serials) refl
answer_has_no_float site (answer.Made sscc) = refl
answer_has_no_float site (answer.Taken count) = refl

pub reply_has_no_float : (site : Setup) (told : Reply) → has_float (reply_data site told) ≡ false
unfolding reply_data
reply_has_no_float site (reply.Accepted told) = answer_has_no_float site told
reply_has_no_float site (reply.Refused broken) = rule_has_no_float site broken

bad_deed_has_no_float : (broken : DeedFault) → has_float (fault (codes "BadDeed") (told_of broken)) ≡ false
unfolding told_of
bad_deed_has_no_float deed.NotObject = refl
bad_deed_has_no_float (deed.NoMember m) = refl
bad_deed_has_no_float (deed.BadMember m) = refl
bad_deed_has_no_float (deed.BadCode index inner) = refl
bad_deed_has_no_float (deed.BadUrn index inner) = refl
bad_deed_has_no_float (deed.TooMany count) = refl
bad_deed_has_no_float deed.Memory = refl
bad_deed_has_no_float (deed.BadRow line column) = refl

pub unkept_has_no_float : (told : Unkept) → has_float (unkept_data told) ≡ false
unfolding unkept_data
unkept_has_no_float unkept.BadLine = refl
unkept_has_no_float unkept.LineTooLong = refl
unkept_has_no_float unkept.NoStation = refl
unkept_has_no_float (unkept.BadDeed broken) = bad_deed_has_no_float broken
unkept_has_no_float (unkept.NumberGap last) = refl
unkept_has_no_float unkept.NumberReused = refl
unkept_has_no_float unkept.DiskFault = refl
unkept_has_no_float unkept.ClockFault = refl
unkept_has_no_float (unkept.ClockRange ms) = refl
unkept_has_no_float unkept.WordsFault = refl
unkept_has_no_float (unkept.WordsSpent found) = refl
unkept_has_no_float (unkept.JournalFull end asked) = refl
unkept_has_no_float unkept.Memory = refl
