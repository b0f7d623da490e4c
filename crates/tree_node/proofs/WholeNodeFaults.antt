-- The first faults of nodes.
use Rattle.std.proofs.Common.{◌≡◌, ℕ, eqb, List, Result, Ok, Err, refl, sym, subst, arith, inl, inr}
use Rattle.std.specs.Prelude.{count_ones}
use Rattle.fields.specs.declared.field_error.FieldError.{FieldError}
use Rattle.fields.specs.declared.field_error.FieldError.TheVariants as fields
use Rattle.fields.specs.Grammar.{IsGrammar}
use Rattle.fields.specs.FirstFaults.{EndsInside}
use Rattle.fields.proofs.GrammarLaws.{Reader}
use Rattle.fields.proofs.NumberLaws.{byte_grammar, u16_grammar, u32_grammar}
use Rattle.fields.proofs.FirstFaultLaws.{IsOne, Faults, IsRule, err_is, ok_no_err, faultless, faults_then, faults_last, faults_as, none_begins}
use Rattle.fields.proofs.FieldFaults.{or_else, rejects, byte_faults, number_faults}
use Rattle.tree_node.specs.declared.position.Position.{Position}
use Rattle.tree_node.specs.declared.version.TreeVersion.{TreeVersion}
use Rattle.tree_node.specs.declared.node.InnerNode.{InnerNode}
use Rattle.tree_node.specs.declared.node.Segment.{Segment}
use Rattle.tree_node.specs.declared.error.NodeError.{NodeError}
use Rattle.tree_node.specs.declared.error.NodeError.TheVariants.{Short, Trailing, Order, Position as OtherPosition, Memory, BadTag}
use Rattle.tree_node.specs.TreeVersions.{inner_tag, segment_tag}
use Rattle.tree_node.specs.Positions.{IsPosition, same_position}
use Rattle.tree_node.specs.Nodes.{IsInner, inner_spelling, IsSegment, segment_spelling, ended, ordered, asked_at, inner_fields_at, inner_at, segment_fields_at, segment_at}
use Rattle.tree_node.specs.FirstFaults.{BreaksNode, IsFirstOfNode, NodeFaultsFirst}
use Rattle.tree_node.proofs.PositionLaws.{any_grammar}
use Rattle.tree_node.proofs.NodeLaws.{ended_grammar, asked_grammar}
use Rattle.tree_node.proofs.NodeFaults.{any_position_faults, entries_faults, digests_faults}

-- the causes that are rules
abbrev IsRuleOfNode : NodeError → Type 0
IsRuleOfNode Order = Unit {0}
IsRuleOfNode OtherPosition = Unit {0}
IsRuleOfNode BadTag = Unit {0}
IsRuleOfNode Short = ⊥
IsRuleOfNode Trailing = ⊥
IsRuleOfNode Memory = ⊥

abbrev at_rule : ℕ → NodeError → Type 0
at_rule _ e = IsRuleOfNode e

abbrev too_short : ℕ → NodeError
too_short _ = Short

abbrev of_ended : FieldError → NodeError
of_ended (fields.Short p) = Short
of_ended (fields.Rule p) = Short
of_ended fields.Memory = Memory

abbrev of_ordered : FieldError → NodeError
of_ordered (fields.Short p) = Short
of_ordered (fields.Rule p) = Order
of_ordered fields.Memory = Memory

ended_faults : {A : Type 0} {read : Reader A FieldError} → Faults fields.Short (λ _ _. ⊥) read → Faults too_short at_rule (λ bytes at. ended (read bytes at))
ended_faults {A = A} f = faults_as ended of_ended back forth (λ p. refl) (λ p d is. absurd is) f
  where
    back : (r : Result (A × ℕ) FieldError) (e : NodeError) → ended r ≡ Err e → (d : FieldError) × (r ≡ Err d) × (of_ended d ≡ e)
    back (Ok x) e h = absurd (ok_no_err x e h)
    back (Err (fields.Short p)) e h = (fields.Short p, refl, err_is (A × ℕ) Short e h)
    back (Err (fields.Rule p)) e h = (fields.Rule p, refl, err_is (A × ℕ) Short e h)
    back (Err fields.Memory) e h = (fields.Memory, refl, err_is (A × ℕ) Memory e h)

    forth : (d : FieldError) → ended {X = A × ℕ} (Err d) ≡ Err (of_ended d)
    forth (fields.Short p) = refl
    forth (fields.Rule p) = refl
    forth fields.Memory = refl

ordered_faults : {A : Type 0} {read : Reader A FieldError} → Faults fields.Short IsRule read → Faults too_short at_rule (λ bytes at. ordered (read bytes at))
ordered_faults {A = A} f = faults_as ordered of_ordered back forth (λ p. refl) (λ p d is. subst (λ (z : FieldError). IsRuleOfNode (of_ordered z)) (sym is) tt) f
  where
    back : (r : Result (A × ℕ) FieldError) (e : NodeError) → ordered r ≡ Err e → (d : FieldError) × (r ≡ Err d) × (of_ordered d ≡ e)
    back (Ok x) e h = absurd (ok_no_err x e h)
    back (Err (fields.Short p)) e h = (fields.Short p, refl, err_is (A × ℕ) Short e h)
    back (Err (fields.Rule p)) e h = (fields.Rule p, refl, err_is (A × ℕ) Order e h)
    back (Err fields.Memory) e h = (fields.Memory, refl, err_is (A × ℕ) Memory e h)

    forth : (d : FieldError) → ordered {X = A × ℕ} (Err d) ≡ Err (of_ordered d)
    forth (fields.Short p) = refl
    forth (fields.Rule p) = refl
    forth fields.Memory = refl

asked_faults : (asked : Position) → Faults too_short at_rule (asked_at asked)
unfolding asked_at
asked_faults asked = faults_then (ended_grammar any_grammar) (ended_faults (any_position_faults (λ _ _. ⊥))) _ (λ position start. or_else _ start (same_position position asked) (faultless position) (rejects _ start OtherPosition (omega arith) tt))

inner_fields_faults : (v : TreeVersion) (asked : Position) → IsPosition v asked → Faults too_short at_rule (inner_fields_at v asked)
unfolding inner_fields_at
inner_fields_faults v asked ok =
    faults_then (asked_grammar v asked ok) (asked_faults asked) _ (λ position start. inl
    (faults_then (ended_grammar u16_grammar) (ended_faults (number_faults (λ _ _. ⊥) 2)) _ (λ mask start. inl
    (faults_last (ended_faults (digests_faults (λ _ _. ⊥) (count_ones mask))) (λ digests. let made : InnerNode = record { version = v; position = position; mask = mask; digests = digests } in made)))))

inner_faults : (v : TreeVersion) (asked : Position) → IsPosition v asked → Faults too_short at_rule (inner_at v asked)
unfolding inner_at
inner_faults v asked ok = faults_then (ended_grammar byte_grammar) (ended_faults (byte_faults (λ _ _. ⊥))) _ (λ tag start. or_else 1 start (eqb tag (inner_tag v)) (inner_fields_faults v asked ok) (rejects 1 start BadTag (omega arith) tt))

segment_fields_faults : (v : TreeVersion) (asked : Position) → IsPosition v asked → Faults too_short at_rule (segment_fields_at v asked)
unfolding segment_fields_at
segment_fields_faults v asked ok =
    faults_then (asked_grammar v asked ok) (asked_faults asked) _ (λ position start. inl
    (faults_then (ended_grammar u32_grammar) (ended_faults (number_faults (λ _ _. ⊥) 4)) _ (λ count start. inl
    (faults_last (ordered_faults (entries_faults count)) (λ entries. let made : Segment = record { version = v; position = position; entries = entries } in made)))))

segment_faults : (v : TreeVersion) (asked : Position) → IsPosition v asked → Faults too_short at_rule (segment_at v asked)
unfolding segment_at
segment_faults v asked ok = faults_then (ended_grammar byte_grammar) (ended_faults (byte_faults (λ _ _. ⊥))) _ (λ tag start. or_else 1 start (eqb tag (segment_tag v)) (segment_fields_faults v asked ok) (rejects 1 start BadTag (omega arith) tt))

node_faults : {A : Type 0} {IsValid : A → Type 0} {spelling : A → List ℕ} {read : Reader A NodeError} → IsGrammar IsValid spelling read → Faults too_short at_rule read → NodeFaultsFirst IsValid spelling read
node_faults {A = A} {IsValid = IsValid} {spelling = spelling} {read = read} g f bytes at e fits le h = by e (f.one bytes at e fits le h)
  where
    ruled : (e : NodeError) → IsRuleOfNode e → BreaksNode IsValid spelling read bytes at e → IsFirstOfNode IsValid spelling read bytes at e
    ruled Order is b = b
    ruled OtherPosition is b = b
    ruled BadTag is b = b
    ruled Short is b = absurd is
    ruled Trailing is b = absurd is
    ruled Memory is b = absurd is

    by : (e : NodeError) → IsOne too_short at_rule read bytes at e → IsFirstOfNode IsValid spelling read bytes at e
    by e (inl s) = subst (IsFirstOfNode IsValid spelling read bytes at) (sym s.1) (s.0, subst (EndsInside read bytes at s.0) s.1 s.2)
    by e (inr b) = ruled e b.2 (record { place = b.0; end = b.1; breaks = b.3; none = none_begins g bytes at b.0 b.1 e b.3 })

pub inner_first : (v : TreeVersion) (asked : Position) → IsPosition v asked → (g : IsGrammar (λ n. IsInner n × (n.version ≡ v) × (n.position ≡ asked)) inner_spelling (inner_at v asked)) → NodeFaultsFirst (λ n. IsInner n × (n.version ≡ v) × (n.position ≡ asked)) inner_spelling (inner_at v asked)
inner_first v asked ok g = node_faults g (inner_faults v asked ok)

pub segment_first : (v : TreeVersion) (asked : Position) → IsPosition v asked → (g : IsGrammar (λ s. IsSegment s × (s.version ≡ v) × (s.position ≡ asked)) segment_spelling (segment_at v asked)) → NodeFaultsFirst (λ s. IsSegment s × (s.version ≡ v) × (s.position ≡ asked)) segment_spelling (segment_at v asked)
segment_first v asked ok g = node_faults g (segment_faults v asked ok)
