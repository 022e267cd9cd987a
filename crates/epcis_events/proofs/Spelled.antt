-- The texts of some events, byte for byte.
use Rattle.std.proofs.Common.{◌≡◌, ℕ, [], ◌∷◌, ◌++◌, false, None, codes, refl}
use Rattle.json.specs.Print.{quoted}
use Rattle.serde_json.specs.Written.{compact_text}
use Rattle.serde_json.proofs.OnLiterals.{serde_json_on_literals}
use Rattle.epc_urn.specs.declared.epc.Epc.TheVariants.{Unit as Box}
use Rattle.epc_urn.specs.Urns.{urn_text, sscc_scheme, sgln_text, sgln_scheme}
use Rattle.epcis_events.specs.declared.event.Action.TheVariants.{Add}
use Rattle.epcis_events.specs.declared.event.Step.TheVariants.{Commissioning}
use Rattle.epcis_events.specs.declared.event.Disposition.TheVariants.{Active}
use Rattle.epcis_events.specs.Moment.{moment_text}
use Rattle.epcis_events.specs.Documents.{action_word, step_word, disposition_word, type_word, list_word, day_meant, date_of, ilmd_data, event_data}

pub made : (time : ℕ) → compact_text (event_data (record {
  aggregation = false;
  action = Add;
  step = Commissioning;
  disposition = Active;
  epcs = (Box (codes "106141410000000019"), 7) ∷ [];
  parent = None;
  time = time;
  place = (codes "0614141000012", 7);
  offset = codes "+00:00";
  ilmd = None;
}))
    ≡ codes "{\"action\":\"ADD\",\"bizLocation\":{\"id\":\"urn:epc:id:sgln:0614141.00001.0\"},\"bizStep\":\"commissioning\",\"disposition\":\"active\",\"epcList\":[\"urn:epc:id:sscc:0614141.1000000001\"],\"eventTime\":"
    ++ (quoted (moment_text time) ++ codes ",\"eventTimeZoneOffset\":\"+00:00\",\"readPoint\":{\"id\":\"urn:epc:id:sgln:0614141.00001.0\"},\"type\":\"ObjectEvent\"}")
unfolding serde_json_on_literals event_data action_word step_word disposition_word type_word list_word urn_text sscc_scheme sgln_text sgln_scheme
made time = refl

pub ilmd : compact_text (ilmd_data (codes "LOT7A", codes "271200")) ≡ codes "{\"cbvmda:itemExpirationDate\":\"2027-12-31\",\"cbvmda:lotNumber\":\"LOT7A\"}"
unfolding serde_json_on_literals date_of day_meant
ilmd = refl
