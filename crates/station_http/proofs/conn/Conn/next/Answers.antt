use Rattle.std.specs.Io.KnownBytes.{IsAtEnd}
use Rattle.station_http.proofs.Calls.{further_if, calls_of}
use Rattle.station_http.proofs.conn.Conn.next.Goals as goal

pub returns-clause-further : goal.returns-clause-further
returns-clause-further g c =
    let a = c.advance.ensures.answer in
    further_if c.args.self.now.stage c.args.self.now c.advance.new.self a.0 c.advance.result (IsAtEnd (g.S.Source.left c.advance.new.source)) a.2

pub returns-clause-calls : goal.returns-clause-calls
returns-clause-calls g c waiting =
    let a = c.advance.ensures.answer in
    calls_of c.args.self.now.stage c.args.self.now c.advance.new.self a.0 c.advance.result (IsAtEnd (g.S.Source.left c.advance.new.source)) waiting a.2
