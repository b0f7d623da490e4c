use Rattle.call_table.specs.Rows.{with_stage}
use Rattle.call_table.specs.declared.row.KeyRow.{KeyRow}
use Rattle.call_table.proofs.Written.{changed_in_place}
use Rattle.call_table.proofs.rows.Rows.set_stage.Goals as goal

pub returns-in-Some : goal.returns-in-Some
unfolding with_stage
returns-in-Some c =
    let change : KeyRow → KeyRow = λ row. record row { stage = c.args.stage } in
    let was = c.in-Some.row.now in
    changed_in_place c.args.key.now change was c.self.inside.rows.entries c.args.self.now _ c.get_mut.ensures.ordered c.in-Some.ensures.value c.self.view_is (c.get_mut.follows.holds (change was)).0
