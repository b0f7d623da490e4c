-- What a peer gives of a node obeys the grammar of frames, whatever bytes the node has.
use Rattle.std.proofs.Common.{◌≡◌, ℕ, zero, suc, Bool, true, false, cond, List, [], ◌∷◌, length, take, Option, None, Some, Result, Ok, Err, refl, ap, arith}
use Rattle.std.specs.Prelude.{IfOk, count_ones, ◌==◌}
use Rattle.std.proofs.lemmas.Nat.{ones_le_self}
use Rattle.ens_base.specs.declared.entry.Entry.{Entry}
use Rattle.ens_base.specs.Results.{◌>>=◌}
use Rattle.ens_base.proofs.Lists.{take_few}
use Rattle.fields.specs.declared.field_error.FieldError.{FieldError}
use Rattle.fields.specs.declared.field_error.FieldError.TheVariants as fields
use Rattle.fields.specs.Numbers.{byte_at, number_at, run_at}
use Rattle.fields.specs.Strings.{key_at}
use Rattle.fields.specs.Versions.{version_at}
use Rattle.tree_node.specs.declared.version.TreeVersion.{TreeVersion}
use Rattle.tree_node.specs.declared.version.TreeVersion.TheVariants.{Two}
use Rattle.tree_node.specs.TreeVersions.{levels, inner_tag, segment_tag}
use Rattle.tree_node.specs.declared.body.TreeBody.TheVariants.{Inner, Page}
use Rattle.tree_node.specs.declared.error.NodeError.{NodeError}
use Rattle.tree_node.specs.declared.error.NodeError.TheVariants.{Trailing}
use Rattle.tree_node.specs.declared.node.InnerNode.{InnerNode}
use Rattle.tree_node.specs.declared.node.Segment.{Segment}
use Rattle.tree_node.specs.declared.position.Position.{Position}
use Rattle.tree_node.specs.Positions.{IsPosition}
use Rattle.tree_node.specs.Repeats.{list_at}
use Rattle.tree_node.specs.Entries.{is_above, AreAbove, rest_at, next_at, entries_at, digests_at}
use Rattle.tree_node.specs.Nodes.{ended, ordered, asked_at, inner_fields_at, inner_at, segment_fields_at, segment_at, all_of, inner_of, segment_of}
use Rattle.tree_repair.proofs.Buckets.{above_part}
use Rattle.wire_frames.specs.Messages.{ObeysBody}
use Rattle.peer_state.specs.TreeExchange.{Question, is_beyond, beyond, page_of, inner_body, segment_body, given}
use Rattle.step_plans.specs.declared.walked.Walked.{Walked}
use Rattle.step_plans.specs.declared.walked.Walked.TheVariants.{Reached, Broken}
use Rattle.peer_spec.specs.Kept.{IsInTree}
use Rattle.peer_spec.specs.Syncs.{body_of}

-- ## What holds of an answer that is right

-- a fact of the first step gives the fact of the second
then_holds : {A B E : Type 0} (P : A → Type 0) (Q : B → Type 0) (r : Result A E) (f : A → Result B E) → IfOk r P → ((x : A) → P x → IfOk (f x) Q) → IfOk (r >>= f) Q
then_holds P Q (Ok x) f h next = next x h
then_holds P Q (Err e) f h next = tt

-- the fact of the second step holds whatever the first step read
after_holds : {A B E : Type 0} (Q : B → Type 0) (r : Result A E) (f : A → Result B E) → ((x : A) → IfOk (f x) Q) → IfOk (r >>= f) Q
after_holds Q (Ok x) f next = next x
after_holds Q (Err e) f next = tt

-- what passed a test
test_holds : {A E : Type 0} (Q : A → Type 0) (b : Bool) (r : Result A E) (e : E) → (b ≡ true → IfOk r Q) → IfOk (cond b r (Err e)) Q
test_holds Q true r e h = h refl
test_holds Q false r e h = tt

-- the same fact under another name for the errors
ended_holds : {A : Type 0} (Q : A → Type 0) (r : Result A FieldError) → IfOk r Q → IfOk (ended r) Q
ended_holds Q (Ok x) h = h
ended_holds Q (Err (fields.Short at)) h = tt
ended_holds Q (Err (fields.Rule at)) h = tt
ended_holds Q (Err fields.Memory) h = tt

ordered_holds : {A : Type 0} (Q : A → Type 0) (r : Result A FieldError) → IfOk r Q → IfOk (ordered r) Q
ordered_holds Q (Ok x) h = h
ordered_holds Q (Err (fields.Short at)) h = tt
ordered_holds Q (Err (fields.Rule at)) h = tt
ordered_holds Q (Err fields.Memory) h = tt

-- the same fact of a node that is all there is
all_holds : {A : Type 0} (Q : A → Type 0) (r : Result (A × ℕ) NodeError) (size : ℕ) → IfOk r (λ x. Q x.0) → IfOk (all_of r size) Q
all_holds Q (Ok x) size h = test_holds Q (x.1 == size) (Ok x.0) Trailing (λ _. h)
all_holds Q (Err e) size h = tt

-- ## An inner node has a digest for each bit of its mask

-- as many items are read as were asked for
list_length : {B A E : Type 0} (item : B → List ℕ → ℕ → Result (A × ℕ) E) (after : A → B) (n : ℕ) (before : B) (bytes : List ℕ) (at : ℕ) → IfOk (list_at item after n before bytes at) (λ x. length x.0 ≡ n)
unfolding list_at
list_length item after zero before bytes at = refl
list_length {A = A} item after (suc n) before bytes at =
    after_holds (λ (x : List A × ℕ). length x.0 ≡ suc n) (item before bytes at) _
    (λ first. then_holds (λ (x : List A × ℕ). length x.0 ≡ n) (λ (x : List A × ℕ). length x.0 ≡ suc n) (list_at item after n (after first.0) bytes first.1) _ (list_length item after n (after first.0) bytes first.1)
    (λ others h. ap suc h))

inner_fields_each : (tree : TreeVersion) (asked : Position) (bytes : List ℕ) (at : ℕ) → IfOk (inner_fields_at tree asked bytes at) (λ x. length x.0.digests ≡ count_ones x.0.mask)
unfolding inner_fields_at
inner_fields_each tree asked bytes at =
    after_holds (λ (x : InnerNode × ℕ). length x.0.digests ≡ count_ones x.0.mask) (asked_at asked bytes at) _
    (λ position. after_holds (λ (x : InnerNode × ℕ). length x.0.digests ≡ count_ones x.0.mask) (ended (number_at 2 bytes position.1)) _
    (λ mask. then_holds (λ (x : List (List ℕ) × ℕ). length x.0 ≡ count_ones mask.0) (λ (x : InnerNode × ℕ). length x.0.digests ≡ count_ones x.0.mask) (ended (digests_at (count_ones mask.0) bytes mask.1)) _
    (ended_holds (λ (x : List (List ℕ) × ℕ). length x.0 ≡ count_ones mask.0) (digests_at (count_ones mask.0) bytes mask.1) (list_length {B = Unit {0}} (λ _. run_at 16) (λ _. tt) (count_ones mask.0) tt bytes mask.1))
    (λ digests h. h)))

inner_each : (tree : TreeVersion) (asked : Position) (bytes : List ℕ) → IfOk (inner_of tree asked bytes) (λ n. length n.digests ≡ count_ones n.mask)
unfolding inner_at
inner_each tree asked bytes =
    all_holds (λ (n : InnerNode). length n.digests ≡ count_ones n.mask) (inner_at tree asked bytes 0) (length bytes)
    (after_holds (λ (x : InnerNode × ℕ). length x.0.digests ≡ count_ones x.0.mask) (ended (byte_at bytes 0)) _
    (λ tag. test_holds (λ (x : InnerNode × ℕ). length x.0.digests ≡ count_ones x.0.mask) (tag.0 == inner_tag tree) (inner_fields_at tree asked bytes tag.1) _ (λ _. inner_fields_each tree asked bytes tag.1)))

-- ## The keys of a segment ascend

-- an entry that may follow a key has a greater one
next_above : (low bytes : List ℕ) (at : ℕ) → IfOk (next_at low bytes at) (λ x. is_above low x.0.key ≡ true)
unfolding next_at rest_at
next_above low bytes at =
    after_holds (λ (x : Entry × ℕ). is_above low x.0.key ≡ true) (key_at bytes at) _
    (λ key. test_holds (λ (x : Entry × ℕ). is_above low x.0.key ≡ true) (is_above low key.0) (rest_at key.0 bytes key.1) _
    (λ up. after_holds (λ (x : Entry × ℕ). is_above low x.0.key ≡ true) (version_at bytes key.1) _
    (λ version. after_holds (λ (x : Entry × ℕ). is_above low x.0.key ≡ true) (run_at 16 bytes version.1) _ (λ digest. up))))

-- the keys that are read ascend strictly
entries_above : (n : ℕ) (low bytes : List ℕ) (at : ℕ) → IfOk (list_at next_at (λ e. e.key) n low bytes at) (λ x. AreAbove low x.0)
unfolding list_at
entries_above zero low bytes at = tt
entries_above (suc n) low bytes at =
    then_holds (λ (x : Entry × ℕ). is_above low x.0.key ≡ true) (λ (x : List Entry × ℕ). AreAbove low x.0) (next_at low bytes at) _ (next_above low bytes at)
    (λ first up. then_holds (λ (x : List Entry × ℕ). AreAbove first.0.key x.0) (λ (x : List Entry × ℕ). AreAbove low x.0) (list_at next_at (λ e. e.key) n first.0.key bytes first.1) _ (entries_above n first.0.key bytes first.1)
    (λ others rest. (up, rest)))

segment_fields_above : (tree : TreeVersion) (asked : Position) (bytes : List ℕ) (at : ℕ) → IfOk (segment_fields_at tree asked bytes at) (λ x. AreAbove [] x.0.entries)
unfolding segment_fields_at
segment_fields_above tree asked bytes at =
    after_holds (λ (x : Segment × ℕ). AreAbove [] x.0.entries) (asked_at asked bytes at) _
    (λ position. after_holds (λ (x : Segment × ℕ). AreAbove [] x.0.entries) (ended (number_at 4 bytes position.1)) _
    (λ count. then_holds (λ (x : List Entry × ℕ). AreAbove [] x.0) (λ (x : Segment × ℕ). AreAbove [] x.0.entries) (ordered (entries_at count.0 bytes count.1)) _
    (ordered_holds (λ (x : List Entry × ℕ). AreAbove [] x.0) (entries_at count.0 bytes count.1) (entries_above count.0 [] bytes count.1))
    (λ entries h. h)))

segment_above : (tree : TreeVersion) (asked : Position) (bytes : List ℕ) → IfOk (segment_of tree asked bytes) (λ s. AreAbove [] s.entries)
unfolding segment_at
segment_above tree asked bytes =
    all_holds (λ (s : Segment). AreAbove [] s.entries) (segment_at tree asked bytes 0) (length bytes)
    (after_holds (λ (x : Segment × ℕ). AreAbove [] x.0.entries) (ended (byte_at bytes 0)) _
    (λ tag. test_holds (λ (x : Segment × ℕ). AreAbove [] x.0.entries) (tag.0 == segment_tag tree) (segment_fields_at tree asked bytes tag.1) _ (λ _. segment_fields_above tree asked bytes tag.1)))

-- ## A page of it

-- a prefix of ascending entries ascends
take_above : (n : ℕ) (low : List ℕ) (es : List Entry) → AreAbove low es → AreAbove low (take n es)
take_above zero low es a = tt
take_above (suc n) low [] a = tt
take_above (suc n) low (e ∷ es) a = (a.0, take_above n e.key es a.1)

-- a page has at most 32 entries, in the order of their keys
page_obeys : (after : Option (List ℕ)) (es : List Entry) → AreAbove [] es → ObeysBody (page_of after es)
page_obeys after es a = (take_few 32 (beyond after es), take_above 32 [] (beyond after es) (above_part (λ e. is_beyond after e.key) [] es a))

-- ## What is given

segment_obeys : (at : Position) (after : Option (List ℕ)) (r : Result Segment NodeError) → IsPosition Two at → IfOk r (λ s. AreAbove [] s.entries) → ObeysBody (segment_body at after r)
segment_obeys at after (Ok s) is h = page_obeys after s.entries h
segment_obeys at after (Err e) is h = is

inner_obeys : (at : Position) (r : Result InnerNode NodeError) → IsPosition Two at → IfOk r (λ n. length n.digests ≡ count_ones n.mask) → ObeysBody (inner_body at r)
inner_obeys at (Ok n) is h = h
inner_obeys at (Err e) is h = is

-- what is given obeys the grammar of frames: a node that is damaged, or none, is no exception
pub given_obeys : (tree : TreeVersion) (node : Option (List ℕ)) (q : Question) → IsPosition Two q.position → ObeysBody (given tree node q)
given_obeys tree None q is = by (q.position.level == levels tree)
  where
    by : (b : Bool) → ObeysBody (cond b (Page [] false) (Inner 0 []))
    by true = (omega arith, tt)
    by false = omega (arith, ones_le_self 0)
given_obeys tree (Some bytes) q is = by (q.position.level == levels tree)
  where
    by : (b : Bool) → ObeysBody (cond b (segment_body q.position q.after (segment_of tree q.position bytes)) (inner_body q.position (inner_of tree q.position bytes)))
    by true = segment_obeys q.position q.after (segment_of tree q.position bytes) is (segment_above tree q.position bytes)
    by false = inner_obeys q.position (inner_of tree q.position bytes) is (inner_each tree q.position bytes)

-- what is sent after a walk obeys it too
pub body_obeys : (tree : TreeVersion) (q : Question) (walked : Walked (Option (List ℕ))) → IsPosition Two q.position → IsInTree walked → ObeysBody (body_of tree q walked)
body_obeys tree q (Reached node) is inside = given_obeys tree node q is
body_obeys tree q (Broken at) is inside = inside
