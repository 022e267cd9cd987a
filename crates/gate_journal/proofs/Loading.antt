-- From what was read to what the bytes hold.
use Rattle.std.proofs.Common.{◌≡◌, ◌≢◌, inl, inr, ℕ, ◌+◌, ◌<◌, ◌≤◌, List, [], ◌∷◌, ◌++◌, length, drop, Option, Some, None, refl, sym, ◌∙◌, ap, arith, append_assoc, length-append, length-drop}
use Rattle.std.specs.Prelude.{codes}
use Rattle.std.proofs.lemmas.List.{drop_at, drop-drop}
use Rattle.outside.specs.Disks.{Only}
use Rattle.gate_journal.specs.Grammar.{block, header, front, records, IsShort, IsNone, IsBad}
use Rattle.gate_journal.specs.Journals.{IsSettled}
use Rattle.gate_journal.specs.Readings.{BeginsWith, NoHeader, BrokenAt, FoundRecords, LoadedFrom, bytes_of}
use Rattle.gate_journal.specs.declared.loaded.Loaded.{Loaded}
use Rattle.gate_journal.proofs.Blocks.{length-block}
use Rattle.gate_journal.proofs.Crash.{reaches}
use Rattle.gate_journal.proofs.Headers.{header_is}

pub front_is : (site : List ℕ) (ps : List (List ℕ)) → front site ps ≡ 1 ∷ header site ++ records ps
unfolding front
front_is site ps = refl

pub length-header : (site : List ℕ) → length (header site) ≡ 12 + length site
length-header site = let eight : length (codes "PACKSITE") ≡ 8 = refl in
    omega (arith, eight, ap length (header_is site), length-append (codes "PACKSITE") (block site), length-block site)

pub none_short : (c : List ℕ) → length c < 2 → IsNone c
none_short [] few = tt
none_short (a ∷ []) few = tt
none_short (a ∷ b ∷ c) few = absurd (omega arith)

pub none_shut : (c : List ℕ) (gate : ℕ) → c ≡ gate ∷ drop 1 c → gate ≢ 1 → IsNone c
none_shut [] gate is shut = tt
none_shut (a ∷ []) gate is shut = tt
none_shut (a ∷ b ∷ c) gate is shut = let same : a ≡ gate = cc in λ one. shut (sym same ∙ one)

pub bad_header : (c : List ℕ) (gate : ℕ) → 2 ≤ length c → c ≡ gate ∷ drop 1 c → gate ≡ 1 → NoHeader (drop 1 c) → IsBad c 0
bad_header c gate long is open_gate none = inl (
  refl,
  record {
    rest = drop 1 c;
    whole = is ∙ ap (λ (k : ℕ). k ∷ drop 1 c) open_gate;
    more = omega (arith, long, length-drop 1 c);
    broken = none;
  },
)

-- the header and what stands behind it
pub behind_header : (c site : List ℕ) (gate : ℕ) → c ≡ gate ∷ drop 1 c → gate ≡ 1 → BeginsWith (header site) (drop 1 c) → c ≡ 1 ∷ header site ++ drop (13 + length site) c
behind_header c site gate is open_gate begins =
    let long = length-header site in
    let place : 13 + length site ≡ 1 + length (header site) = omega (arith, long) in
    let rest : drop (13 + length site) c ≡ begins.after = ap (λ (k : ℕ). drop k c) place ∙ sym (drop-drop (length (header site)) 1 c) ∙ ap (λ (l : List ℕ). drop (length (header site)) l) begins.whole ∙ drop_at (header site) begins.after (length (header site)) refl in
    is ∙ ap (λ (k : ℕ). k ∷ drop 1 c) open_gate ∙ ap (λ (l : List ℕ). 1 ∷ l) (begins.whole ∙ ap (λ (l : List ℕ). header site ++ l) (sym rest))

-- and the records
whole_front : (c site : List ℕ) (place : ℕ) (ps : List (List ℕ)) → c ≡ 1 ∷ header site ++ drop (13 + length site) c → drop (13 + length site) c ≡ records ps ++ drop place c → c ≡ front site ps ++ drop place c
whole_front c site place ps is more =
    is ∙ ap (λ (l : List ℕ). (1 ∷ header site) ++ l) more ∙ sym (append_assoc (1 ∷ header site) (records ps) (drop place c)) ∙ ap (λ (l : List ℕ). l ++ drop place c) (sym (front_is site ps))

pub length-front : (site : List ℕ) (ps : List (List ℕ)) → length (front site ps) ≡ 13 + length site + length (records ps)
length-front site ps = omega (arith, ap length (front_is site ps), length-append (1 ∷ header site) (records ps), length-header site)

pub bad_record : (c site : List ℕ) (place : ℕ) → IsShort site → c ≡ 1 ∷ header site ++ drop (13 + length site) c → BrokenAt (13 + length site) place c → IsBad c place
bad_record c site place fits is broken = inr (record {
  site = site;
  payloads = broken.payloads;
  site_fits = fits;
  payloads_fit = broken.short;
  rest = drop place c;
  whole = whole_front c site place broken.payloads is broken.read.whole;
  place_is = broken.place_is ∙ sym (length-front site broken.payloads);
  broken = broken.read.rest;
})

pub loaded_from : (told : Option (List ℕ)) (loaded : Loaded) (end size : ℕ) → IsShort loaded.site → ((c : List ℕ) → told ≡ Some c → c ≡ 1 ∷ header loaded.site ++ drop (13 + length loaded.site) c)
    → FoundRecords told (13 + length loaded.site) end size loaded.payloads → LoadedFrom told loaded end
loaded_from told loaded end size fits head found = record {
  site_fits = fits;
  payloads_fit = found.short;
  end_is = found.end_is ∙ sym (length-front loaded.site (bytes_of loaded.payloads));
  places = found.places;
  holds = λ c is. let reads = found.read c is in record {
    site_fits = fits;
    payloads_fit = found.short;
    ends = record {
      rest = drop end c;
      shut = reads.rest;
      whole = whole_front c loaded.site end (bytes_of loaded.payloads) (head c is) reads.whole;
    };
  };
}

-- where the content is the only image
pub only_settled : (told : Option (List ℕ)) (image : List ℕ → Type 0) (loaded : Loaded) (end : ℕ) → Only told image → LoadedFrom told loaded end → IsSettled image end None loaded.site (bytes_of loaded.payloads)
only_settled told image loaded end only from = record {
  settled = refl;
  site_fits = from.site_fits;
  payloads_fit = from.payloads_fit;
  images = λ c left. (from.holds c (only c left), from.end_is);
}

-- the gate is there
pub gate_there : (told : Option (List ℕ)) (image : List ℕ → Type 0) (loaded : Loaded) (end : ℕ) → Only told image → LoadedFrom told loaded end → (c : List ℕ) → image c → end < length c
gate_there told image loaded end only from c left =
    let holds = from.holds c (only c left) in
    let far = reaches (front loaded.site (bytes_of loaded.payloads)) c holds.ends in
    omega (arith, far, from.end_is)
