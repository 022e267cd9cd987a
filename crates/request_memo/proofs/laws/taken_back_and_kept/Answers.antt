use Rattle.std.proofs.Common.{◌-◌, ℕ, List, get_or, set, sym, ◌∙◌, ap, arith}
use Rattle.request_memo.proofs.Shelving.{room_again, pages_same}
use Rattle.request_memo.proofs.laws.taken_back_and_kept.Goals as goal

pub returns : goal.returns
returns c = record {
  memo = pages_same c.push.new.self c.args.memo.now (c.push.ensures.told ∙ sym c.unpush-deed.ensures.told)
      (c.push.ensures.room ∙ ap (λ (room : List ℕ). set room c.args.station (get_or room c.args.station 0 - 1)) c.unpush-deed.ensures.room
      ∙ room_again c.args.memo.now.room c.args.station (omega (arith, c.requires.station, c.tell_pages.ensures)));
}
