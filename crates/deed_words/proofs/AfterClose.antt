-- What follows an accepted close in a history.
use Rattle.std.proofs.Common.{◌≡◌, ℕ, Bool, true, false, List, [], ◌∷◌, ◌++◌, sym, ◌∙◌, ap, refl, subst, append_assoc, append-nil, Option, None, Some}
use Rattle.std.specs.Prelude.{option_map, if◌then◌else◌}
use Rattle.deed_words.specs.declared.entry.Entry.{Entry}
use Rattle.deed_words.specs.declared.rule.Rule.{Rule}
use Rattle.deed_words.specs.declared.deed.Deed.{Deed}
use Rattle.deed_words.specs.declared.deed.Deed.TheVariants.{Close}
use Rattle.deed_words.specs.declared.reply.Reply.TheVariants.{Accepted}
use Rattle.deed_words.specs.declared.reply.Answer.TheVariants.{Plain}
use Rattle.deed_words.specs.declared.words.Phase.TheVariants.{Closed}
use Rattle.deed_words.specs.declared.world.Batch.{Batch}
use Rattle.deed_words.specs.Names.{Text, same}
use Rattle.deed_words.specs.World.{World, nothing_yet, batch_of}
use Rattle.deed_words.specs.Setups.{Setup, IsProper}
use Rattle.deed_words.specs.Deeds.{batch_named}
use Rattle.deed_words.specs.Rules.{rules_of, broken}
use Rattle.deed_words.specs.Effects.{effect, with_phase, in_phase}
use Rattle.deed_words.specs.Replies.{after, unless_broken, replied, reply_to}
use Rattle.deed_words.specs.History.{world_from, world_of, AllFollow, IsLawful}
use Rattle.deed_words.specs.Kept.{KeepsBatch}
use Rattle.deed_words.proofs.Items.{find-map, find_passes}
use Rattle.deed_words.proofs.Allowed.{NoneOf, allowed, has_batch}
use Rattle.deed_words.proofs.Following.{world_from-append, lawful_front}
use Rattle.deed_words.proofs.Soundness.{lawful_is_sound}
use Rattle.deed_words.proofs.ClosedKept.{closed_kept}

-- the batch stands, and is closed
abbrev IsShut : World → Text → Type 0
IsShut w name = (batch : Batch) × (batch_of w name ≡ Some batch) × (batch.phase ≡ Closed)

close_shuts : (site : Setup) (w : World) (station : ℕ) (name : Text) (drawn : List Text) → broken site w station (Close name) ≡ None → IsShut (effect site w station (Close name) drawn) name
unfolding effect with_phase in_phase batch_of batch_named NoneOf rules_of
close_shuts site w station name drawn e =
    let p = allowed site w station (Close name) e in
    let f = has_batch site w station (Close name) p.1.0 in
    let test : Batch → Bool = λ b. same b.order.batch name in
    let keeps : (b : Batch) → test (in_phase Closed name b) ≡ test b = λ b.
    elim (same b.order.batch name) as (λ t. same (if t then record b { phase = Closed } else b).order.batch name ≡ same b.order.batch name) [ true ↦ refl | false ↦ refl ] in
    let named : same f.0.order.batch name ≡ true = find_passes test w.batches f.0 f.1 in
    (in_phase Closed name f.0, find-map test (in_phase Closed name) keeps w.batches ∙ ap (λ (o : Option Batch). option_map (in_phase Closed name) o) f.1, rw named refl)

shut_unless : (site : Setup) (w : World) (entry : Entry) (name : Text) (rule : Option Rule) → entry.deed ≡ Close name → broken site w entry.station entry.deed ≡ rule → replied site w entry rule ≡ Accepted Plain → IsShut (unless_broken site w entry rule) name
unfolding unless_broken replied
shut_unless site w entry name None e b told =
    subst (λ (d : Deed). IsShut (effect site w entry.station d entry.drawn) name) (sym e)
    (close_shuts site w entry.station name entry.drawn (subst (λ (d : Deed). broken site w entry.station d ≡ None) e b))
shut_unless site w entry name (Some rule) e b told = absurd cc

shut_after : (site : Setup) (w : World) (entry : Entry) (name : Text) → entry.deed ≡ Close name → reply_to site w entry ≡ Accepted Plain → IsShut (after site w entry) name
unfolding after reply_to
shut_after site w entry name e told = shut_unless site w entry name (broken site w entry.station entry.deed) e refl told

-- what follows follows what stands in front of it
follow_back : (site : Setup) (history : List Entry) (w : World) (entries more : List Entry) → AllFollow site history w (entries ++ more) → AllFollow site (history ++ entries) (world_from site w entries) more
unfolding AllFollow world_from
follow_back site history w [] more a = subst (λ (h : List Entry). AllFollow site h w more) (sym (append-nil history)) a
follow_back site history w (entry ∷ entries) more a =
    subst (λ (h : List Entry). AllFollow site h (world_from site (after site w entry) entries) more) (append_assoc history (entry ∷ []) entries) (follow_back site (history ++ entry ∷ []) (after site w entry) entries more a.1)

pub closed_for_good : (site : Setup) (front more : List Entry) (entry : Entry) (name : Text) → IsProper site → IsLawful site (front ++ entry ∷ more) → entry.deed ≡ Close name → reply_to site (world_of site front) entry ≡ Accepted Plain
    → KeepsBatch (world_of site (front ++ entry ∷ [])) (world_of site (front ++ entry ∷ more)) name
unfolding IsLawful world_of world_from
closed_for_good site front more entry name proper lawful e told =
    let g : List Entry = front ++ entry ∷ [] in
    let split : g ++ more ≡ front ++ entry ∷ more = append_assoc front (entry ∷ []) more in
    let both : IsLawful site (g ++ more) = subst (IsLawful site) (sym split) lawful in
    let w : World = world_of site g in
    let shut : IsShut w name = subst (λ (v : World). IsShut v name) (sym (world_from-append site nothing_yet front (entry ∷ []))) (shut_after site (world_of site front) entry name e told) in
    let kept : KeepsBatch w (world_from site w more) name =
    closed_kept site g w more name shut.0 (follow_back site [] nothing_yet g more both) (lawful_is_sound site g proper (lawful_front site g more both)) shut.1 shut.2 in
    subst (λ (v : World). KeepsBatch w v name) (sym (world_from-append site nothing_yet g more) ∙ ap (world_of site) split) kept
