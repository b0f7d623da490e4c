-- One finding after another.
use Rattle.std.proofs.Common.{◌≡◌, List, [], ◌++◌, Option, None, Some, refl, ap, ◌∙◌, append_assoc}
use Rattle.std.proofs.lemmas.List.{append-nil}
use Rattle.ens_base.specs.declared.entry.Entry.{Entry}
use Rattle.tree_node.specs.declared.body.Scan.{Scan}
use Rattle.tree_node.specs.declared.position.Position.{Position}
use Rattle.tree_repair.specs.Findings.{nothing, segment_found, joined}
use Rattle.tree_repair.specs.Levels.{entries_of, damage_of}

abbrev pub scan_of : List Entry → List Position → Scan
scan_of es ps = record { entries = es; damaged = ps }

both : (es fs : List Entry) (ps qs : List Position) → es ≡ fs → ps ≡ qs → scan_of es ps ≡ scan_of fs qs
both es fs ps qs e d = ap (λ zs. scan_of zs ps) e ∙ ap (λ zs. scan_of fs zs) d

pub joined_again : (a b c : Scan) → joined a (joined b c) ≡ joined (joined a b) c
joined_again a b c = both (a.entries ++ (b.entries ++ c.entries)) (a.entries ++ b.entries ++ c.entries) (a.damaged ++ (b.damaged ++ c.damaged)) (a.damaged ++ b.damaged ++ c.damaged) (rw append_assoc refl) (rw append_assoc refl)

pub joined_nothing : (a : Scan) → joined a nothing ≡ a
joined_nothing a = both (a.entries ++ []) a.entries (a.damaged ++ []) a.damaged (append-nil a.entries) (append-nil a.damaged)

pub segment_is : (at : Position) (o : Option (List Entry)) (es : List Entry) (ps : List Position) → scan_of (entries_of o ++ es) (damage_of at o ++ ps) ≡ joined (segment_found at o) (scan_of es ps)
segment_is at None es ps = refl
segment_is at (Some entries) es ps = refl
