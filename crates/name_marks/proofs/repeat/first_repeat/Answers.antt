use Rattle.std.proofs.Common.{ℕ, Bool, List, Option, arith, rules, take, sym, ◌∙◌, ap}
use Rattle.epc_urn.specs.declared.epc.Epc.{Epc}
use Rattle.deed_words.specs.Names.{is_among}
use Rattle.deed_words.specs.Chain.{when}
use Rattle.deed_words.proofs.Each.{each_start, each_found, each_passed, each_done}
use Rattle.name_marks.specs.Repeats.{first_repeat}
use Rattle.name_marks.proofs.Marked.{hashed_more}
use Rattle.name_marks.proofs.repeat.first_repeat.Goals as goal

came : List Epc → ℕ → Epc → Option ℕ
came names k name = when (is_among (take k names) name) k

pub loop-place-init : goal.loop-place-init
unfolding came
loop-place-init c = record { hashes = c.in_ok-table.ensures.0; room = omega (arith, c.in_ok-table.ensures.1); rest = each_start c.args.names.now (came c.args.names.now) }

pub returns-then-is_marked : goal.returns-then-is_marked
unfolding came first_repeat when
returns-then-is_marked c =
    let k = c.loop-place.place in
    each_found c.args.names.now (came c.args.names.now) k c.index-names-place.result k c.loop-place-test.true c.index-names-place.is
    (sym (ap (λ (b : Bool). when b k) (sym c.is_marked.ensures ∙ c.if-is_marked.true))) c.loop-place.invariant.rest

pub loop-place-preserved : goal.loop-place-preserved
unfolding came when
loop-place-preserved c =
    let k = c.loop-place.place in
    record {
      hashes = hashed_more c.args.names.now k c.index-names-place.result c.loop-place.table.hashes c.insert.new.self.hashes c.hash_of.result c.loop-place-test.true c.index-names-place.is c.loop-place.invariant.hashes c.hash_of.ensures c.insert.ensures.hashes;
      room = search rules;
      rest = each_passed c.args.names.now (came c.args.names.now) k c.index-names-place.result c.loop-place-test.true c.index-names-place.is
          (sym (ap (λ (b : Bool). when b k) (sym c.is_marked.ensures ∙ c.if-is_marked.false))) c.loop-place.invariant.rest;
    }

pub returns : goal.returns
unfolding came first_repeat
returns c = each_done c.args.names.now (came c.args.names.now) c.loop-place.place (omega arith) c.loop-place.invariant.rest
