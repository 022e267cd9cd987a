-- Whatever reads as a deed has the deed's word.
use Rattle.std.proofs.Common.{◌≡◌, ℕ, List, Bool, true, false, cond, Option, None, Some, Result, Ok, Err, codes, refl, sym, ap, subst, ◌∙◌}
use Rattle.std.proofs.lemmas.Slice.Eq.{bytes_eq-Decides}
use Rattle.std.specs.Prelude.{if◌then◌else◌, bytes_eq}
use Rattle.serde_json.specs.Data.{Data, Members}
use Rattle.serde_json.specs.Find.{as_object}
use Rattle.deed_words.specs.Names.{Text}
use Rattle.deed_words.specs.declared.deed.Deed.{Deed}
use Rattle.deed_words.specs.declared.deed.Deed.TheVariants as deed
use Rattle.deed_words.specs.declared.entry.Said.{Said}
use Rattle.site_files.specs.Due.{◌>>=◌}
use Rattle.deed_json.specs.Deeds.{count_at, deed_word, deed_of_batch, deed_of_unit, deed_of_word, if_object, operator_at, or_bad_member, said_by_word, said_of, text_at, word_of}
use Rattle.deed_json.specs.declared.deed_fault.DeedFault.{DeedFault}
use Rattle.deed_json.specs.declared.deed_fault.Member.{Member}
use Rattle.deed_json.specs.declared.deed_fault.Member.TheVariants as member
use Rattle.deed_json.specs.declared.deed_word.BatchWord.{BatchWord}
use Rattle.deed_json.specs.declared.deed_word.BatchWord.TheVariants as of_batch
use Rattle.deed_json.specs.declared.deed_word.DeedWord.{DeedWord}
use Rattle.deed_json.specs.declared.deed_word.DeedWord.TheVariants as word
use Rattle.deed_json.specs.declared.deed_word.UnitWord.{UnitWord}
use Rattle.deed_json.specs.declared.deed_word.UnitWord.TheVariants as of_unit

-- ---- the text of a word

abbrev batch_text : BatchWord → Text
batch_text of_batch.Start = codes "start"
batch_text of_batch.Draw = codes "draw"
batch_text of_batch.Lend = codes "lend"
batch_text of_batch.Commission = codes "commission"
batch_text of_batch.Spoil = codes "spoil"
batch_text of_batch.Giveback = codes "giveback"
batch_text of_batch.Sample = codes "sample"
batch_text of_batch.Reject = codes "reject"
batch_text of_batch.Reinstate = codes "reinstate"
batch_text of_batch.Destroy = codes "destroy"
batch_text of_batch.Decommission = codes "decommission"
batch_text of_batch.Container = codes "container"
batch_text of_batch.Declare = codes "declare"
batch_text of_batch.Close = codes "close"
batch_text of_batch.Amend = codes "amend"

abbrev unit_text : UnitWord → Text
unit_text of_unit.Pack = codes "pack"
unit_text of_unit.Unpack = codes "unpack"
unit_text of_unit.UnpackAll = codes "unpack_all"
unit_text of_unit.Seal = codes "seal"
unit_text of_unit.Unseal = codes "unseal"
unit_text of_unit.Void = codes "void"

abbrev word_text : DeedWord → Text
word_text word.Order = codes "order"
word_text word.Orders = codes "orders"
word_text (word.OfBatch w) = batch_text w
word_text (word.OfUnit w) = unit_text w

-- a key of a chain of tests, or the rest of it
key_or : (text key : Text) (x : DeedWord) (rest : Option DeedWord) (w : DeedWord) → key ≡ word_text x → (rest ≡ Some w → text ≡ word_text w) → (if bytes_eq text key then Some x else rest) ≡ Some w → text ≡ word_text w
key_or text key x rest w own more e =
    (elim (bytes_eq text key) as (λ (b : Bool). bytes_eq text key ≡ b → (if b then Some x else rest) ≡ Some w → text ≡ word_text w) [
      | true ↦ λ same e. let is : x ≡ w = cc in subst (λ (v : DeedWord). text ≡ word_text v) is ((bytes_eq-Decides text key).0 same ∙ own)
      | false ↦ λ same e. more e
    ]) refl e

none_there : (text : Text) (w : DeedWord) → None ≡ Some w → text ≡ word_text w
none_there text w e = absurd (cc)

is_word : (text : Text) (w : DeedWord) → word_of text ≡ Some w → text ≡ word_text w
unfolding word_of
is_word text w =
    key_or text (codes "order") word.Order _ w refl
    (key_or text (codes "orders") word.Orders _ w refl
    (key_or text (codes "start") (word.OfBatch of_batch.Start) _ w refl
    (key_or text (codes "draw") (word.OfBatch of_batch.Draw) _ w refl
    (key_or text (codes "lend") (word.OfBatch of_batch.Lend) _ w refl
    (key_or text (codes "commission") (word.OfBatch of_batch.Commission) _ w refl
    (key_or text (codes "spoil") (word.OfBatch of_batch.Spoil) _ w refl
    (key_or text (codes "giveback") (word.OfBatch of_batch.Giveback) _ w refl
    (key_or text (codes "sample") (word.OfBatch of_batch.Sample) _ w refl
    (key_or text (codes "reject") (word.OfBatch of_batch.Reject) _ w refl
    (key_or text (codes "reinstate") (word.OfBatch of_batch.Reinstate) _ w refl
    (key_or text (codes "destroy") (word.OfBatch of_batch.Destroy) _ w refl
    (key_or text (codes "decommission") (word.OfBatch of_batch.Decommission) _ w refl
    (key_or text (codes "container") (word.OfBatch of_batch.Container) _ w refl
    (key_or text (codes "pack") (word.OfUnit of_unit.Pack) _ w refl
    (key_or text (codes "unpack") (word.OfUnit of_unit.Unpack) _ w refl
    (key_or text (codes "unpack_all") (word.OfUnit of_unit.UnpackAll) _ w refl
    (key_or text (codes "seal") (word.OfUnit of_unit.Seal) _ w refl
    (key_or text (codes "unseal") (word.OfUnit of_unit.Unseal) _ w refl
    (key_or text (codes "void") (word.OfUnit of_unit.Void) _ w refl
    (key_or text (codes "declare") (word.OfBatch of_batch.Declare) _ w refl
    (key_or text (codes "close") (word.OfBatch of_batch.Close) _ w refl
    (key_or text (codes "amend") (word.OfBatch of_batch.Amend) _ w refl
    (none_there text w)))))))))))))))))))))))

-- ---- the deed of a word

abbrev Gives : Result Deed DeedFault → Deed → Type 0
Gives r made = r ≡ Ok made

given : (x made : Deed) (text : Text) → deed_word x ≡ text → Gives (Ok x) made → deed_word made ≡ text
given x made text is e = let same : x ≡ made = cc in subst (λ (v : Deed). deed_word v ≡ text) same is

-- what is read first goes well, and then the rest
then_well : {A B : Type 0} (P : Type 0) (r : Result A DeedFault) (f : A → Result B DeedFault) (b : B) → ((a : A) → r ≡ Ok a → f a ≡ Ok b → P) → r >>= f ≡ Ok b → P
then_well P (Ok a) f b go e = go a refl e
then_well P (Err fault) f b go e = absurd (cc)

read : {A : Type 0} (r : Result A DeedFault) (f : A → Result Deed DeedFault) (made : Deed) (text : Text) → ((a : A) → Gives (f a) made → deed_word made ≡ text) → Gives (r >>= f) made → deed_word made ≡ text
read r f made text go e = then_well (deed_word made ≡ text) r f made (λ a is. go a) e

of_the_batch : (w : BatchWord) (batch : Text) (d : Data) (made : Deed) → Gives (deed_of_batch w batch d) made → deed_word made ≡ batch_text w
unfolding deed_of_batch deed_word
of_the_batch of_batch.Start batch d made e = given (deed.Start batch) made _ refl e
of_the_batch of_batch.Draw batch d made e = read _ _ made _ (λ count. given (deed.Draw batch count) made _ refl) e
of_the_batch of_batch.Lend batch d made e = read _ _ made _ (λ count. given (deed.Lend batch count) made _ refl) e
of_the_batch of_batch.Commission batch d made e = read _ _ made _ (λ scans. given (deed.Commission batch scans) made _ refl) e
of_the_batch of_batch.Spoil batch d made e = read _ _ made _ (λ serials. given (deed.Spoil batch serials) made _ refl) e
of_the_batch of_batch.Giveback batch d made e = read _ _ made _ (λ serials. given (deed.Giveback batch serials) made _ refl) e
of_the_batch of_batch.Sample batch d made e = read _ _ made _ (λ items. given (deed.Sample batch items) made _ refl) e
of_the_batch of_batch.Reject batch d made e = read _ _ made _ (λ items. given (deed.Reject batch items) made _ refl) e
of_the_batch of_batch.Reinstate batch d made e = read _ _ made _ (λ items. given (deed.Reinstate batch items) made _ refl) e
of_the_batch of_batch.Destroy batch d made e = read _ _ made _ (λ items. given (deed.Destroy batch items) made _ refl) e
of_the_batch of_batch.Decommission batch d made e = read _ _ made _ (λ items. given (deed.Decommission batch items) made _ refl) e
of_the_batch of_batch.Container batch d made e = read _ _ made _ (λ level. given (deed.Container batch level) made _ refl) e
of_the_batch of_batch.Declare batch d made e = read (count_at member.Good d) _ made _ (λ good. read (count_at member.Spoiled d) _ made _ (λ spoiled. read (count_at member.Returned d) _ made _ (λ returned. given (deed.Declare batch good spoiled returned) made _ refl))) e
of_the_batch of_batch.Close batch d made e = given (deed.Close batch) made _ refl e
of_the_batch of_batch.Amend batch d made e = read _ _ made _ (λ quantity. given (deed.Amend batch quantity) made _ refl) e

of_the_unit : (w : UnitWord) (unit : Text) (d : Data) (made : Deed) → Gives (deed_of_unit w unit d) made → deed_word made ≡ unit_text w
unfolding deed_of_unit deed_word
of_the_unit of_unit.Pack unit d made e = read _ _ made _ (λ children. given (deed.Pack unit children) made _ refl) e
of_the_unit of_unit.Unpack unit d made e = read _ _ made _ (λ children. given (deed.Unpack unit children) made _ refl) e
of_the_unit of_unit.UnpackAll unit d made e = given (deed.UnpackAll unit) made _ refl e
of_the_unit of_unit.Seal unit d made e = given (deed.Seal unit) made _ refl e
of_the_unit of_unit.Unseal unit d made e = given (deed.Unseal unit) made _ refl e
of_the_unit of_unit.Void unit d made e = given (deed.Void unit) made _ refl e

of_the_word : (w : DeedWord) (d : Data) (made : Deed) → Gives (deed_of_word w d) made → deed_word made ≡ word_text w
unfolding deed_of_word deed_word
of_the_word word.Order d made e = read _ _ made _ (λ row. given (deed.Order row) made _ refl) e
of_the_word word.Orders d made e = read _ _ made _ (λ rows. given (deed.Orders rows) made _ refl) e
of_the_word (word.OfBatch w) d made e = read _ _ made _ (λ batch. of_the_batch w batch d made) e
of_the_word (word.OfUnit w) d made e = read _ _ made _ (λ unit. of_the_unit w unit d made) e

-- ---- what is said

abbrev Says : Result Said DeedFault → Said → Type 0
Says r said = r ≡ Ok said

ok_same : (one other : Said) → Says (Ok one) other → one ≡ other
ok_same one other e = cc

of_said : (w : DeedWord) (d : Data) (said : Said) → Says (said_by_word w d) said → deed_word said.deed ≡ word_text w
unfolding said_by_word
of_said w d said e =
    then_well (deed_word said.deed ≡ word_text w) (deed_of_word w d) (λ made. operator_at d >>= (λ operator. Ok (record { deed = made; operator = operator }))) said
    (λ made is rest. then_well (deed_word said.deed ≡ word_text w) (operator_at d) (λ operator. Ok (record { deed = made; operator = operator })) said
    (λ operator read all. let same : made ≡ said.deed = ap (λ (s : Said). s.deed) (ok_same (record { deed = made; operator = operator }) said all) in of_the_word w d said.deed (subst (Gives (deed_of_word w d)) same is)) rest) e

in_object : (o : Option Members) (due : Result Said DeedFault) (said : Said) → if_object o due ≡ Ok said → due ≡ Ok said
in_object None due said e = absurd (cc)
in_object (Some ms) due said e = e

there : (m : Member) (o : Option DeedWord) (w : DeedWord) → or_bad_member m o ≡ Ok w → o ≡ Some w
there m None w e = absurd (cc)
there m (Some x) w e = let same : x ≡ w = cc in ap (λ (v : DeedWord). Some v) same

-- what reads as a deed has its word at `do`
pub asked_by_its_word : (d : Data) (said : Said) → said_of d ≡ Ok said → text_at member.Do d ≡ Ok (deed_word said.deed)
unfolding said_of
asked_by_its_word d said e =
    then_well (text_at member.Do d ≡ Ok (deed_word said.deed)) (text_at member.Do d) (λ text. or_bad_member member.Do (word_of text) >>= (λ w. said_by_word w d)) said
    (λ text is rest. then_well (text_at member.Do d ≡ Ok (deed_word said.deed)) (or_bad_member member.Do (word_of text)) (λ w. said_by_word w d) said
    (λ w named all. let same = is_word text w (there member.Do (word_of text) w named) ∙ sym (of_said w d said all) in is ∙ ap (λ (t : Text). Ok t) same) rest) (in_object (as_object d) _ said e)
