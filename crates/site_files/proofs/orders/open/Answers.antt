use Rattle.std.proofs.Common.{◌∙◌, ◌+◌, length, refl, arith, inr}
use Rattle.csv.specs.Reading.{strip_bom}
use Rattle.site_files.specs.Orders.{csv_of}
use Rattle.site_files.proofs.orders.open.Goals as goal

pub returns : goal.returns
unfolding csv_of
returns c =
    let fr = c.from_reader.ensures in
    let flex = c.flexible.ensures in
    let named = c.has_headers.ensures in
    record {
      plain = rw (flex, named) at fr.trim ∙ c.new.ensures.trim;
      ready = inr (inr (rw (flex, named) at fr.has_headers, fr.headers));
      config = rw (flex, named) at fr.config ∙ c.new.ensures.config;
      rest = strip_bom c.args.bytes.now;
      source = fr.source;
      turns = length (strip_bom c.args.bytes.now) + 1;
      enough = omega arith;
      between = rw fr.state refl;
      are = rw fr.state refl;
    }
