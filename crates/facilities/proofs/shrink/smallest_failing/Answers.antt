use Rattle.std.proofs.Common.{◌^◌, ◌<◌, arith, rules}
use Rattle.jobs.specs.Sets.{width, bits}
use Rattle.facilities.proofs.Shrinking.{shrunk_minimal, shrunk_once}
use Rattle.facilities.proofs.shrink.smallest_failing.Goals as goal

pub returns : goal.returns
returns g c =
    let f = c.args.facility.now in
    let s = bits c.args.set in
    let t = bits c.shrunk-least.result in
    let small : s < 2 ^ width = omega arith in
    record {
      shrunk = search rules;
      minimal = shrunk_minimal (g.F.Facility.family f) (g.met.F.Facility.parts f) s t small c.shrunk-least.ensures;
      single = shrunk_once (g.F.Facility.family f) s;
    }
