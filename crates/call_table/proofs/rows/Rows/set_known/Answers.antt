use Rattle.call_table.specs.Rows.{with_known}
use Rattle.call_table.specs.declared.row.KeyRow.{KeyRow}
use Rattle.call_table.proofs.Written.{changed_in_place}
use Rattle.call_table.proofs.rows.Rows.set_known.Goals as goal

pub returns-in-Some : goal.returns-in-Some
unfolding with_known
returns-in-Some c =
    let change : KeyRow → KeyRow = λ row. record row { known = c.args.known } in
    let was = c.in-Some.row.now in
    changed_in_place c.args.key.now change was c.self.inside.rows.entries c.args.self.now _ c.get_mut.ensures.ordered c.in-Some.ensures.value c.self.view_is (c.get_mut.follows.holds (change was)).0
