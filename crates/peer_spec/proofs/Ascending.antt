-- A test of whether the keys of entries ascend strictly.
use Rattle.std.proofs.Common.{◌≡◌, ℕ, Bool, true, false, List, [], ◌∷◌, refl, sym}
use Rattle.std.proofs.lemmas.Bool.{and_parts}
use Rattle.ens_base.specs.declared.entry.Entry.{Entry}
use Rattle.tree_node.specs.Entries.{AreAbove, is_above}
use Rattle.peer_spec.specs.Starts.{ascends}

ascends_above : (low : List ℕ) (es : List Entry) → ascends low es ≡ true → AreAbove low es
ascends_above low [] is = tt
ascends_above low (e ∷ es) is = let parts = and_parts (is_above low e.key) (ascends e.key es) is in (parts.0, ascends_above e.key es parts.1)

above_ascends : (low : List ℕ) (es : List Entry) → AreAbove low es → ascends low es ≡ true
above_ascends low [] above = refl
above_ascends low (e ∷ es) above = rw above.0 (above_ascends e.key es above.1)

-- a test that says so exactly of entries whose keys ascend strictly is the test of the definition
pub ascending : (es : List Entry) (test : Bool) → (test ≡ true → AreAbove [] es) → (AreAbove [] es → test ≡ true) → test ≡ ascends [] es
ascending es true sound complete = sym (above_ascends [] es (sound refl))
ascending es false sound complete = by (ascends [] es) refl
  where
    by : (b : Bool) → ascends [] es ≡ b → false ≡ b
    by true is = complete (ascends_above [] es is)
    by false is = refl
