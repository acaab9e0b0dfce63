use Rattle.std.proofs.Common.{ℕ, ◌≤◌, length, ap, arith, length-append, length-take}
use Rattle.jobs.specs.Sets.{width}
use Rattle.sheet.proofs.Lining.{length_head, length_lines}
use Rattle.sheet.proofs.sheet_of.Goals as goal

pub put_line-requires : goal.put_line-requires
put_line-requires c = omega (arith, ap length c.new-sheet.ensures, length_head)

pub put_lines-requires : goal.put_lines-requires
put_lines-requires c =
    let places = c.places-places in
    let few : length places.result.now ≤ width = omega (arith, ap length places.ensures, length-take {A = ℕ}) in
    let short = length_lines places.result.now few (λ k. omega (arith, c.type_inv.places k)) in
    record { few = few; room = omega (arith, ap length c.new-sheet.ensures, ap length c.put_line.ensures, length-append {A = ℕ}, length_head) }
