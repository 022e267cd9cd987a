-- The JSON of replies: their names, and what each tells.
use Rattle.std.specs.Prelude.{ℕ, ◌<◌, List, [], ◌∷◌, codes, length}
use Rattle.std.specs.List.{slice_get, AllByRecursion as Every}
use Rattle.std.specs.Option.{option_map_or}
use Rattle.serde_json.specs.Data.{Data, string, array}
use Rattle.epc_urn.specs.declared.epc.Epc.TheVariants.{Unit}
use Rattle.epc_urn.specs.Urns.{urn_text}
use Rattle.deed_words.specs.Names.{Text}
use Rattle.deed_words.specs.Setups.{Setup}
use Rattle.deed_words.specs.declared.words.Condition.{Condition}
use Rattle.deed_words.specs.declared.words.Condition.TheVariants as condition
use Rattle.deed_words.specs.declared.words.What.{What}
use Rattle.deed_words.specs.declared.words.What.TheVariants as what
use Rattle.deed_words.specs.declared.rule.Finding.{Finding}
use Rattle.deed_words.specs.declared.rule.Finding.TheVariants as finding
use Rattle.deed_words.specs.declared.rule.Rule.{Rule}
use Rattle.deed_words.specs.declared.rule.Rule.TheVariants as rule
use Rattle.deed_words.specs.declared.reply.Answer.{Answer}
use Rattle.deed_words.specs.declared.reply.Answer.TheVariants as answer
use Rattle.deed_words.specs.declared.reply.Reply.{Reply}
use Rattle.deed_words.specs.declared.reply.Reply.TheVariants as reply
use Rattle.deed_json.specs.Objects.{Told, whole, texts_of, numbers_of, accepted, refused}

-- ---- words

unfoldable pub condition_word : Condition → Text
condition_word condition.Fresh = codes "fresh"
condition_word condition.Lent = codes "lent"
condition_word condition.Returned = codes "returned"
condition_word condition.Spoiled = codes "spoiled"
condition_word condition.Active = codes "active"
condition_word condition.Sampled = codes "sampled"
condition_word condition.Rejected = codes "rejected"
condition_word condition.Gone = codes "gone"
condition_word condition.Filling = codes "filling"
condition_word condition.Sealed = codes "sealed"
condition_word condition.Void = codes "void"

unfoldable pub what_word : What → Text
what_word what.Batches = codes "batches"
what_word what.Serials = codes "serials"
what_word what.Units = codes "units"

-- the name of the station at that place of the setup
unfoldable pub station_name : Setup → ℕ → Text
station_name site station = option_map_or (λ s. s.name) (slice_get site.stations station) []

-- ---- members

abbrev pub row_at : ℕ → Told
row_at row = (codes "row", whole row)

abbrev pub index_at : ℕ → Told
index_at index = (codes "index", whole index)

abbrev pub asked_at : ℕ → Told
asked_at asked = (codes "asked", whole asked)

abbrev pub have_at : ℕ → Told
have_at have = (codes "have", whole have)

abbrev pub finding_at : List ℕ → Told
finding_at name = (codes "finding", string name)

abbrev pub serial_at : Text → Told
serial_at serial = (codes "serial", string serial)

abbrev pub sscc_at : Text → Told
sscc_at sscc = (codes "sscc", string sscc)

abbrev pub line_at : Setup → ℕ → Told
line_at site line = (codes "line", string (station_name site line))

abbrev pub numbers_at : List ℕ → List ℕ → Told
numbers_at key numbers = (key, array (numbers_of numbers))

-- ---- the finding of a batch that isn't accounted for

abbrev pub told_of_finding : Setup → Finding → List Told
told_of_finding site (finding.StillLent serial) = finding_at (codes "StillLent") ∷ serial_at serial ∷ []
told_of_finding site (finding.StillRejected serial) = finding_at (codes "StillRejected") ∷ serial_at serial ∷ []
told_of_finding site (finding.Unpacked serial) = finding_at (codes "Unpacked") ∷ serial_at serial ∷ []
told_of_finding site (finding.UnitOpen sscc) = finding_at (codes "UnitOpen") ∷ sscc_at sscc ∷ []
told_of_finding site (finding.UnitLoose sscc) = finding_at (codes "UnitLoose") ∷ sscc_at sscc ∷ []
told_of_finding site (finding.NotDeclared line) = finding_at (codes "NotDeclared") ∷ line_at site line ∷ []
told_of_finding site (finding.DeclaredDiffers line counted declared) =
    finding_at (codes "DeclaredDiffers") ∷ line_at site line ∷ numbers_at (codes "counted") counted ∷ numbers_at (codes "declared") declared ∷ []

unfoldable pub finding_data : Setup → Finding → Data
finding_data site found = refused (codes "NotAccounted") (told_of_finding site found)

-- ---- the rule that refused

unfoldable pub rule_data : Setup → Rule → Data
rule_data site rule.RoleForbids = refused (codes "RoleForbids") []
rule_data site (rule.UnknownProduct row) = refused (codes "UnknownProduct") (row_at row ∷ [])
rule_data site (rule.OrderConflict row) = refused (codes "OrderConflict") (row_at row ∷ [])
rule_data site rule.UnknownBatch = refused (codes "UnknownBatch") []
rule_data site rule.UnknownUnit = refused (codes "UnknownUnit") []
rule_data site rule.BatchNotStarted = refused (codes "BatchNotStarted") []
rule_data site rule.BatchStarted = refused (codes "BatchStarted") []
rule_data site rule.BatchClosed = refused (codes "BatchClosed") []
rule_data site rule.UnitVoid = refused (codes "UnitVoid") []
rule_data site rule.UnitSealed = refused (codes "UnitSealed") []
rule_data site rule.UnitNotSealed = refused (codes "UnitNotSealed") []
rule_data site (rule.CountOutOfRange most) = refused (codes "CountOutOfRange") ((codes "most", whole most) ∷ [])
rule_data site (rule.SiteFull full have) = refused (codes "SiteFull") ((codes "what", string (what_word full)) ∷ have_at have ∷ [])
rule_data site (rule.PoolThin asked have) = refused (codes "PoolThin") (asked_at asked ∷ have_at have ∷ [])
rule_data site (rule.FewFresh have) = refused (codes "FewFresh") (have_at have ∷ [])
rule_data site rule.SsccSpent = refused (codes "SsccSpent") []
rule_data site (rule.RepeatedInRequest index) = refused (codes "RepeatedInRequest") (index_at index ∷ [])
rule_data site (rule.UnknownSerial index) = refused (codes "UnknownSerial") (index_at index ∷ [])
rule_data site (rule.OtherBatch index) = refused (codes "OtherBatch") (index_at index ∷ [])
rule_data site (rule.WrongLevel index) = refused (codes "WrongLevel") (index_at index ∷ [])
rule_data site (rule.WrongState index state) = refused (codes "WrongState") (index_at index ∷ (codes "state", string (condition_word state)) ∷ [])
rule_data site (rule.LentToOther index line) = refused (codes "LentToOther") (index_at index ∷ line_at site line ∷ [])
rule_data site (rule.HasParent index parent) = refused (codes "HasParent") (index_at index ∷ (codes "parent", string parent) ∷ [])
rule_data site (rule.NotChild index) = refused (codes "NotChild") (index_at index ∷ [])
rule_data site (rule.UnitFull have room) = refused (codes "UnitFull") (have_at have ∷ (codes "room", whole room) ∷ [])
rule_data site (rule.UnitNotEmpty have) = refused (codes "UnitNotEmpty") (have_at have ∷ [])
rule_data site rule.NothingInside = refused (codes "NothingInside") []
rule_data site (rule.NotAccounted found) = finding_data site found

-- ---- what an accepted deed is told

-- the URN of a container of the site
unfoldable pub urn_of_unit : Setup → Text → Text
urn_of_unit site sscc = urn_text (Unit sscc) (length site.prefix)

unfoldable pub answer_data : Setup → Answer → Data
answer_data site answer.Plain = accepted []
answer_data site (answer.Orders added already) = accepted ((codes "already", whole already) ∷ (codes "new", whole added) ∷ [])
answer_data site (answer.Listed serials) = accepted ((codes "serials", array (texts_of serials)) ∷ [])
answer_data site (answer.Made sscc) = accepted ((codes "unit", string (urn_of_unit site sscc)) ∷ [])
answer_data site (answer.Taken count) = accepted ((codes "taken", whole count) ∷ [])

unfoldable pub reply_data : Setup → Reply → Data
reply_data site (reply.Accepted told) = answer_data site told
reply_data site (reply.Refused broken) = rule_data site broken

-- ---- the stations that a reply names

abbrev pub stations_of_finding : Finding → List ℕ
stations_of_finding (finding.NotDeclared line) = line ∷ []
stations_of_finding (finding.DeclaredDiffers line counted declared) = line ∷ []
stations_of_finding other = []

abbrev pub stations_of_rule : Rule → List ℕ
stations_of_rule (rule.LentToOther index line) = line ∷ []
stations_of_rule (rule.NotAccounted found) = stations_of_finding found
stations_of_rule other = []

abbrev pub stations_of : Reply → List ℕ
stations_of (reply.Accepted told) = []
stations_of (reply.Refused broken) = stations_of_rule broken

-- they are of the site
abbrev pub AreOfSite : Setup → List ℕ → Type 0
AreOfSite site = Every (λ station. station < length site.stations)

abbrev pub NamesStationsOf : Setup → Reply → Type 0
NamesStationsOf site told = AreOfSite site (stations_of told)
