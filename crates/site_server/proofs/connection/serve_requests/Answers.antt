use Rattle.std.proofs.Common.{◌∙◌, [], length, inl, refl, ap, arith}
use Rattle.std.proofs.KnownBytes.{Consumes-nil}
use Rattle.station_http.specs.declared.asked.Asked.{Asked}
use Rattle.site_server.proofs.Counting.{counted_all, none_counted, one_counted}
use Rattle.site_server.proofs.Goings.{either_so, held_as, none_held, read_more, rose_from, some_answered, starting, told_as}
use Rattle.site_server.proofs.Sessions.{ends_before_end, ends_before_fault, ends_between, ends_by_fault, ends_in_answers}
use Rattle.site_server.proofs.connection.serve_requests.Goals as goal

pub requests-init : goal.requests-init
requests-init g c =
    let f = c.requires.fresh in
    let none = ap length c.requires.none in
    record {
      holding = starting c.args.desk.now.origin c.args.pass.now.worker (g.L.Source.left c.args.link.now) (g.L.Sink.held c.args.link.now) c.args.conn.now c.args.pass.now.seen c.args.posts.now.items f.0 f.1 f.2 c.requires.none;
      waits = inl c.requires.none;
      few = omega (arith, none);
      turns = omega (arith, none, ap length f.0);
      counted = none_counted (g.L.Source.left c.args.link.now) c.args.conn.now c.args.pass.now.turns (length c.args.posts.now.items) f.0 f.1 f.2 none;
      within = omega (arith, f.1);
      desk = c.requires.own;
      worker = refl;
      last = refl;
      reads = refl;
      writes = refl;
    }

pub answer_gathered-requires-clause-turns : goal.answer_gathered-requires-clause-turns
answer_gathered-requires-clause-turns g c = let i = c.requests.invariant in let turns = i.turns in let within = i.within in let start = c.requires.turns in omega (arith, turns, within, start)

pub answer_gathered-requires-in-Ok-None-clause-turns : goal.answer_gathered-requires-in-Ok-None-clause-turns
answer_gathered-requires-in-Ok-None-clause-turns g c = let i = c.requests.invariant in let turns = i.turns in let within = i.within in let start = c.requires.turns in omega (arith, turns, within, start)

pub take_in-requires-clause-turns : goal.take_in-requires-clause-turns
take_in-requires-clause-turns g c = let i = c.requests.invariant in let turns = i.turns in let within = i.within in let start = c.requires.turns in omega (arith, turns, within, start)

pub returns-in_default-clause-turns : goal.returns-in_default-clause-turns
returns-in_default-clause-turns g c = let i = c.requests.invariant in let turns = i.turns in let within = i.within in let more = c.answer_gathered.ensures.turns in omega (arith, turns, within, more)

pub returns-in-Err-clause-turns : goal.returns-in-Err-clause-turns
returns-in-Err-clause-turns g c = let i = c.requests.invariant in let turns = i.turns in let within = i.within in let more = c.answer_gathered.ensures.turns in omega (arith, turns, within, more)

pub returns-in_default-answer_gathered-clause-turns : goal.returns-in_default-answer_gathered-clause-turns
returns-in_default-answer_gathered-clause-turns g c = let i = c.requests.invariant in let turns = i.turns in let within = i.within in let more = c.answer_gathered-in-Ok-None.ensures.turns in omega (arith, turns, within, more)

pub returns-in-Ok-None-clause-turns : goal.returns-in-Ok-None-clause-turns
returns-in-Ok-None-clause-turns g c = let i = c.requests.invariant in let turns = i.turns in let within = i.within in let more = c.answer_gathered-in-Ok-None.ensures.turns in omega (arith, turns, within, more)

pub returns-in_default-clause-requests : goal.returns-in_default-clause-requests
returns-in_default-clause-requests g c =
    let i = c.requests.invariant in let t = c.in-Err.ensures.answer in let a = c.answer_gathered.ensures in
    counted_all _ _ _ _ _ _ _ _ c.requests.conn t.0 _ i.counted t.1 a.left a.turns

pub returns-in-Err-clause-requests : goal.returns-in-Err-clause-requests
returns-in-Err-clause-requests g c =
    let i = c.requests.invariant in let t = c.in-Err.ensures.answer in let a = c.answer_gathered.ensures in
    counted_all _ _ _ _ _ _ _ _ c.requests.conn t.0 _ i.counted t.1 (c.end_by.ensures.left ∙ a.left) a.turns

pub returns-in_default-answer_gathered-clause-requests : goal.returns-in_default-answer_gathered-clause-requests
returns-in_default-answer_gathered-clause-requests g c =
    let i = c.requests.invariant in let t = c.in-Ok-None.ensures.answer in let a = c.answer_gathered-in-Ok-None.ensures in
    counted_all _ _ _ _ _ _ _ _ c.requests.conn t.0 _ i.counted t.1 a.left a.turns

pub returns-in-Ok-None-clause-requests : goal.returns-in-Ok-None-clause-requests
returns-in-Ok-None-clause-requests g c =
    let i = c.requests.invariant in let t = c.in-Ok-None.ensures.answer in let a = c.answer_gathered-in-Ok-None.ensures in
    counted_all _ _ _ _ _ _ _ _ c.requests.conn t.0 _ i.counted t.1 a.left a.turns

pub returns-in_default-take_in-clause-requests : goal.returns-in_default-take_in-clause-requests
returns-in_default-take_in-clause-requests g c =
    let i = c.requests.invariant in let t = c.take_in.ensures in let asked : Asked = c.in-Ok-Some.asked in
    let counted = one_counted _ _ _ _ _ _ _ _ _ c.requests.conn c.next_of.new.conn c.in-Ok-Some.field-0 asked _ _ i.counted refl c.in-Ok-Some.field-0-is c.in-Ok-Some.ensures.answer t.left t.turns in
    counted_all _ _ _ _ _ _ _ _ c.next_of.new.conn [] 0 counted (Consumes-nil _) refl (omega arith)

pub returns-in_default-clause-served : goal.returns-in_default-clause-served
returns-in_default-clause-served g c =
    let i = c.requests.invariant in let h = i.holding in let f = c.in_default.ensures in
    let a = told_as _ _ _ _ _ _ _ _ _ _ _ i.worker c.next_of.ensures.held (f.answered h.gathered h.are h.close) in
    let reads = either_so i.waits f.some (λ w. ap g.L.Source.read_faults (c.next_of.ensures.waits w)) in
    let later = f.cause.later in let writes = c.next_of.ensures.faults ∙ i.writes in
    ends_before_fault _ _ _ _ _ _ _ _ _ _ _ _ _ _ _ _ _ _ _ _ c.requests.conn c.next_of.new.conn c.in-Err.fault h.going a refl c.in-Err.ensures.answer c.next_of.ensures.within
    c.answer_gathered.ensures.left (c.answer_gathered.ensures.faults ∙ (reads ∙ i.reads)) (rose_from _ _ _ writes f.cause.failed) (omega (arith, later, writes))

pub returns-in-Err-clause-served : goal.returns-in-Err-clause-served
returns-in-Err-clause-served g c =
    let i = c.requests.invariant in let h = i.holding in let f = c.in-Ok.ensures in
    let a = told_as _ _ _ _ _ _ _ _ _ _ _ i.worker c.next_of.ensures.held (f.answered h.gathered h.are h.close) in
    let going = none_held _ _ _ _ _ _ _ _ _ _ (some_answered _ _ _ _ _ _ _ _ _ c.requests.conn h.gathered _ _ _ h.going a) f.none in
    let e = c.end_by.ensures in
    ends_by_fault _ _ _ _ _ _ _ _ _ _ _ _ _ _ _ _ _ _ _ c.requests.conn c.next_of.new.conn c.in-Err.fault _ going refl c.in-Err.ensures.answer c.next_of.ensures.within
    e.end (e.left ∙ c.answer_gathered.ensures.left) i.reads c.in-Err.ensures.cause (e.faults ∙ c.answer_gathered.ensures.faults) (f.cause.kept ∙ (c.next_of.ensures.faults ∙ i.writes)) e.cause

pub returns-in_default-answer_gathered-clause-served : goal.returns-in_default-answer_gathered-clause-served
returns-in_default-answer_gathered-clause-served g c =
    let i = c.requests.invariant in let h = i.holding in let f = c.in_default-answer_gathered.ensures in
    let a = told_as _ _ _ _ _ _ _ _ _ _ _ i.worker c.next_of.ensures.held (f.answered h.gathered h.are h.close) in
    let later = f.cause.later in let writes = c.next_of.ensures.faults ∙ i.writes in
    ends_before_end _ _ _ _ _ _ _ _ _ _ _ _ _ _ _ _ _ _ _ _ c.requests.conn c.next_of.new.conn c.in-Ok-None.field-0 h.going a refl c.in-Ok-None.field-0-is c.in-Ok-None.ensures.answer c.next_of.ensures.within
    c.answer_gathered-in-Ok-None.ensures.left (c.answer_gathered-in-Ok-None.ensures.faults ∙ (c.in-Ok-None.ensures.cause.kept ∙ i.reads)) (rose_from _ _ _ writes f.cause.failed) (omega (arith, later, writes))

pub returns-in-Ok-None-clause-served : goal.returns-in-Ok-None-clause-served
returns-in-Ok-None-clause-served g c =
    let i = c.requests.invariant in let h = i.holding in let f = c.in-Ok-answer_gathered.ensures in
    let a = told_as _ _ _ _ _ _ _ _ _ _ _ i.worker c.next_of.ensures.held (f.answered h.gathered h.are h.close) in
    let going = none_held _ _ _ _ _ _ _ _ _ _ (some_answered _ _ _ _ _ _ _ _ _ c.requests.conn h.gathered _ _ _ h.going a) f.none in
    ends_between _ _ _ _ _ _ _ _ _ _ _ _ _ _ _ _ _ c.requests.conn c.next_of.new.conn c.in-Ok-None.field-0 going refl c.in-Ok-None.field-0-is c.in-Ok-None.ensures.answer c.next_of.ensures.within
    c.answer_gathered-in-Ok-None.ensures.left i.reads c.in-Ok-None.ensures.cause c.answer_gathered-in-Ok-None.ensures.faults (f.cause.kept ∙ (c.next_of.ensures.faults ∙ i.writes))

pub returns-in_default-take_in-clause-served : goal.returns-in_default-take_in-clause-served
returns-in_default-take_in-clause-served g c =
    let i = c.requests.invariant in let h = i.holding in let f = c.in_default-take_in.ensures in let asked : Asked = c.in-Ok-Some.asked in
    let m = read_more _ _ _ _ _ _ _ _ _ _ c.requests.conn c.next_of.new.conn h.gathered c.in-Ok-Some.field-0 asked _ h.going refl c.in-Ok-Some.field-0-is c.in-Ok-Some.ensures.answer in
    let a = told_as _ _ _ _ _ _ _ _ _ _ _ i.worker c.next_of.ensures.held (f.answered h.gathered h.are h.close) in
    let later = f.cause.later in let writes = c.next_of.ensures.faults ∙ i.writes in
    ends_in_answers _ _ _ _ _ _ _ _ _ _ _ _ _ _ _ _ _ _ c.next_of.new.conn m.0 a c.next_of.ensures.within
    c.take_in.ensures.left (c.take_in.ensures.faults ∙ (c.in-Ok-Some.ensures.cause.kept ∙ i.reads)) (rose_from _ _ _ writes f.cause.failed) (omega (arith, later, writes))

pub returns-in_default-take_in-clause-turns : goal.returns-in_default-take_in-clause-turns
returns-in_default-take_in-clause-turns g c =
    let i = c.requests.invariant in let h = i.holding in let asked : Asked = c.in-Ok-Some.asked in
    let m = read_more _ _ _ _ _ _ _ _ _ _ c.requests.conn c.next_of.new.conn h.gathered c.in-Ok-Some.field-0 asked _ h.going refl c.in-Ok-Some.field-0-is c.in-Ok-Some.ensures.answer in
    let measure = m.1 in let within = c.next_of.ensures.within in let turns = i.turns in let more = c.take_in.ensures.turns in
    omega (arith, measure, within, turns, more)

pub requests-smaller : goal.requests-smaller
requests-smaller g c =
    let i = c.requests.invariant in let h = i.holding in let asked : Asked = c.in-Ok-Some.asked in
    let m = read_more _ _ _ _ _ _ _ _ _ _ c.requests.conn c.next_of.new.conn h.gathered c.in-Ok-Some.field-0 asked _ h.going refl c.in-Ok-Some.field-0-is c.in-Ok-Some.ensures.answer in
    let more = m.1 in let within = c.next_of.ensures.within in
    omega (arith, more, within)

pub requests-preserved : goal.requests-preserved
requests-preserved g c =
    let i = c.requests.invariant in let h = i.holding in let f = c.in-Ok-take_in.ensures in let t = c.take_in.ensures in let asked : Asked = c.in-Ok-Some.asked in
    let m = read_more _ _ _ _ _ _ _ _ _ _ c.requests.conn c.next_of.new.conn h.gathered c.in-Ok-Some.field-0 asked _ h.going refl c.in-Ok-Some.field-0-is c.in-Ok-Some.ensures.answer in
    let a = told_as _ _ _ _ _ _ _ _ _ _ _ i.worker c.next_of.ensures.held (f.answered h.gathered h.are h.close) in
    let measure = m.1 in let held = m.0.heard.held in let turns = i.turns in let more = t.turns in
    record {
      holding = held_as _ _ _ _ _ _ _ _ _ _ _ t.left (some_answered _ _ _ _ _ _ _ _ _ c.next_of.new.conn _ _ _ _ m.0 a);
      waits = f.waits;
      few = f.few;
      turns = omega (arith, measure, held, turns, more);
      counted = one_counted _ _ _ _ _ _ _ _ _ c.requests.conn c.next_of.new.conn c.in-Ok-Some.field-0 asked _ _ i.counted refl c.in-Ok-Some.field-0-is c.in-Ok-Some.ensures.answer t.left more;
      within = c.next_of.ensures.within;
      desk = t.same.0;
      worker = t.same.1 ∙ i.worker;
      last = t.same.2 ∙ i.last;
      reads = t.faults ∙ (c.in-Ok-Some.ensures.cause.kept ∙ i.reads);
      writes = f.cause.kept ∙ (c.next_of.ensures.faults ∙ i.writes);
    }
