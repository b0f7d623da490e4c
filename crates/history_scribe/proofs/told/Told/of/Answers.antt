use Rattle.std.proofs.Common.{drop, ◌+◌, List, subst}
use Rattle.std.proofs.lemmas.List.{drop_more, drop_all}
use Rattle.history_scribe.specs.Marks.{all_noted}
use Rattle.history_scribe.specs.Told.{TellsBefore}
use Rattle.history_scribe.specs.declared.mark.Mark.{Mark}
use Rattle.history_scribe.proofs.told.Told.of.Goals as goal

pub loop-mark-init : goal.loop-mark-init
loop-mark-init c = λ key. c.new-told.ensures (all_noted key c.args.marks.now) key

pub loop-mark-preserved : goal.loop-mark-preserved
loop-mark-preserved c = λ key.
    let P : List Mark → Type 0 = λ marks. TellsBefore c.loop-mark.told (all_noted key marks) (all_noted key c.args.marks.now) key in
    c.in_ok-take.ensures (all_noted key (drop (c.loop-mark.mark-index + 1) c.args.marks.now)) (all_noted key c.args.marks.now) key
    (subst P (drop_more c.args.marks.now c.loop-mark.mark-index _ c.loop-mark-test.true) (c.loop-mark.invariant key))

pub returns : goal.returns
returns c = λ key.
    let P : List Mark → Type 0 = λ marks. TellsBefore c.loop-mark.told (all_noted key marks) (all_noted key c.args.marks.now) key in
    subst P (drop_all c.loop-mark.mark-index c.args.marks.now c.loop-mark-test.false) (c.loop-mark.invariant key)
