use Rattle.std.proofs.Common.{◌∙◌, ◌++◌, ◌∷◌, [], List, ℕ, ap}
use Rattle.tree_repair.proofs.Levels.{root_filled}
use Rattle.tree_repair.proofs.inner.root_text.Goals as goal

pub returns-clause-texts : goal.returns-clause-texts
returns-clause-texts c = root_filled c.args.version c.args.below.now.indexes.items c.as_slice.result.now c.args.below.now.names.items c.as_slice-2.result.now c.push.new.self.indexes.items c.new-texts.result.texts.items c.push.new.self.texts.items c.in_ok-text.text c.as_slice.ensures.value c.as_slice-2.ensures.value c.requires.beside c.requires.within
    ((c.in_ok-push.ensures).indexes ∙ ap (λ (is : List ℕ). is ++ 0 ∷ []) c.new-texts.ensures.indexes) c.new-texts.ensures.texts (c.in_ok-push.ensures).texts c.in_ok-text.ensures
