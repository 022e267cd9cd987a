use Rattle.std.proofs.Common.{◌≡◌, ◌-◌, ◌+◌, min, ℕ, List, [], ◌∷◌, ◌++◌, length, take, drop, sym, refl, ◌∙◌, ap, arith}
use Rattle.std.specs.Prelude.{slice_range}
use Rattle.std.proofs.lemmas.List.{with_items_is, length-take-le, length-drop, drop_at}
use Rattle.outside.specs.Devices.{ask, asked_more}
use Rattle.station_http.specs.Limits.{head_limit, session_limit}
use Rattle.station_http.specs.Reading.{Reading}
use Rattle.station_http.proofs.Pieces.{filled, length_part}
use Rattle.station_http.proofs.conn.Conn.fill.Goals as goal

pub returns-clause-bytes : goal.returns-clause-bytes
returns-clause-bytes g c =
    let s = c.self.inside in
    let piece = c.take_behind.new.piece in
    let n = c.in-Ok.count in
    let m = s.end - s.at in
    let len : length piece ≡ c.copy_within.new.self.len = omega arith in
    let items = with_items_is c.copy_within.new.self piece len in
    let front = c.take_behind.ensures.front ∙ ap (take m) c.deref_mut.ensures.value in
    let all = filled s.piece.items c.copy_within.new.self.items piece s.at s.end n (omega arith) (omega arith) c.copy_within.ensures.items front in
    let bound = c.in-Ok.ensures.bound in
    let fits : length (take n (drop m piece)) ≡ n = length-take-le n (drop m piece) (omega (arith, length-drop m piece, bound, c.room-room.ensures)) in (
      take n (drop m piece),
      c.in-Ok.ensures.bytes.0,
      (
        fits,
        ap (λ (xs : List ℕ). slice_range xs 0 (m + n)) items ∙ all ∙ ap (λ (r : Reading). r.pending ++ take n (drop m piece)) c.self.view_is,
        ap (λ (r : Reading). r.taken + n) c.self.view_is,
        ap (λ (r : Reading). r.stage) c.self.view_is,
        c.in-Ok.ensures.bytes.1,
      ),
    )

pub returns-clause-asked : goal.returns-clause-asked
unfolding returns-clause-bytes
returns-clause-asked g c =
    let s = c.self.inside in
    let r = c.args.self.now in
    let m = s.end - s.at in
    let came = take c.in-Ok.count (drop m c.take_behind.new.piece) in
    let told = g.S.Source.asks c.args.source.now in
    let b = returns-clause-bytes g c in
    let held : length r.pending ≡ m = ap (λ (q : Reading). length q.pending) (sym c.self.view_is) ∙ length_part s.piece.items s.at s.end (omega arith) in
    let room : c.room-room.result ≡ min (session_limit - r.taken) (head_limit - length r.pending) =
    c.room-room.ensures ∙ ap (λ (q : Reading). min (session_limit - q.taken) (head_limit - m)) c.self.view_is
    ∙ ap (λ (k : ℕ). min (session_limit - r.taken) (head_limit - k)) (sym held) in
    c.in-Ok.ensures.asked ∙ ap (λ (k : ℕ). asked_more told (ask k came ∷ [])) room
    ∙ ap (λ (xs : List ℕ). asked_more told (ask (min (session_limit - r.taken) (head_limit - length r.pending)) xs ∷ [])) (sym (ap (drop (length r.pending)) b.2.1 ∙ drop_at r.pending came (length r.pending) refl))
