-- What a sync that asks other members alone sends.
use Rattle.std.specs.Prelude.{All, map, if◌then◌else◌}
use Rattle.ens_base.specs.Lists.{is_in}
use Rattle.std.proofs.Common.{◌≡◌, ◌≤◌, ℕ, Bool, true, false, List, [], ◌∷◌, Option, None, Some, refl}
use Rattle.std.proofs.lemmas.List.Concat.{flat_map-cons}
use Rattle.std.proofs.lemmas.List.Elements.{All-nil, All-cons, All-append, All-head, All-tail, All-weaker}
use Rattle.ens_base.specs.Views.{last_view}
use Rattle.ens_base.specs.declared.epoch.Epoch.{Epoch}
use Rattle.tree_sync.specs.StoredFormats.{Fact}
use Rattle.tree_node.specs.TreeVersions.{levels}
use Rattle.tree_node.specs.declared.body.Scan.{Scan}
use Rattle.tree_node.specs.declared.version.TreeVersion.{TreeVersion}
use Rattle.leader_output.specs.declared.out.Outgoing.{Outgoing}
use Rattle.tree_exchange.specs.declared.question.Question.{Question}
use Rattle.tree_sync.specs.Asks.{ask_message, question_of, questions, asks_of, resumed, is_finished}
use Rattle.tree_sync.specs.Rows.{row_start, row_resume, row_take}
use Rattle.tree_sync.specs.Running.{Running}
use Rattle.tree_sync.specs.Sends.{IsOfOther, AsksOthers, MayGo, AsksAt, IsQuestion}
use Rattle.tree_sync.specs.declared.asking.Asking.{Asking}
use Rattle.tree_sync.specs.declared.asking.Give.{Give}
use Rattle.tree_sync.proofs.Others.{asks_are, resumed_are, after_is}
use Rattle.tree_sync.proofs.Walking.{ask_after, by_take}

-- a message that may go, and asks a member of the view at a ballot
record IsAsk (me : ℕ) (view : List ℕ) (ballot : Epoch) (s : Outgoing) : Type 0 where
  go : MayGo me s
  member : is_in view s.to ≡ true
  at : AsksAt ballot s.message

message_is : (me : ℕ) (view : List ℕ) (ballot : Epoch) (a : Asking) (q : Option Question) → a.ask.current ≡ q → IsOfOther me view a → All (IsAsk me view ballot) (ask_message ballot a.peer q)
message_is me view ballot a None e h = All-nil (IsAsk me view ballot)
message_is me view ballot a (Some q) e h = let places = rw e at h.places in
    All-cons (IsAsk me view ballot) _ [] (record { go = (h.peer, h.other, places.0); member = h.member; at = refl }) (All-nil (IsAsk me view ballot))

question_is : (me : ℕ) (view : List ℕ) (ballot : Epoch) (a : Asking) → IsOfOther me view a → All (IsAsk me view ballot) (question_of ballot a)
question_is me view ballot a h = by (is_finished a.stage)
  where
    by : (b : Bool) → All (IsAsk me view ballot) (if b then [] else ask_message ballot a.peer a.ask.current)
    by true = All-nil (IsAsk me view ballot)
    by false = message_is me view ballot a a.ask.current refl h

questions_are : (me : ℕ) (view : List ℕ) (ballot : Epoch) (all : List Asking) → All (IsOfOther me view) all → All (IsAsk me view ballot) (questions ballot all)
questions_are me view ballot [] h = All-nil (IsAsk me view ballot)
questions_are me view ballot (a ∷ all) h = rw (flat_map-cons (question_of ballot) a all) (All-append (IsAsk me view ballot) (question_of ballot a) (questions ballot all)
    (question_is me view ballot a (All-head (IsOfOther me view) a all h)) (questions_are me view ballot all (All-tail (IsOfOther me view) a all h)))

start_are : (fact : Fact) (me : ℕ) (trusted : Bool) (scan : Scan) → All (IsAsk me (last_view fact.views) fact.epoch) (row_start fact me trusted scan).1
start_are fact me trusted scan = questions_are me (last_view fact.views) fact.epoch (asks_of me (last_view fact.views)) (asks_are me (last_view fact.views))

resume_are : (me : ℕ) (r : Running) → AsksOthers me r → All (IsAsk me r.sync.view r.fact.epoch) (row_resume r).1
resume_are me r h = questions_are me r.sync.view r.fact.epoch (map resumed r.asks) (resumed_are me r h)

take_are : (tree : TreeVersion) (me from : ℕ) (give : Give) (own : Option (List ℕ)) (r : Running) → give.question.position.level ≤ levels tree → AsksOthers me r → All (IsAsk me r.sync.view r.fact.epoch) (row_take tree from give own r).1
take_are tree me from give own r p h = by_take (λ x. All (IsAsk me r.sync.view r.fact.epoch) x.1) tree from give own r (record {
  none = no;
  kept = λ place a e. no;
  next = λ place a e. question_is me r.sync.view r.fact.epoch (ask_after tree give own a r) (after_is tree me give own r p h place a e);
  done = λ place a e. no;
})
  where
    no : All (IsAsk me r.sync.view r.fact.epoch) []
    no = All-nil (IsAsk me r.sync.view r.fact.epoch)

all_go : (me : ℕ) (view : List ℕ) (ballot : Epoch) (sends : List Outgoing) → All (IsAsk me view ballot) sends → All (MayGo me) sends
all_go me view ballot sends h = All-weaker (IsAsk me view ballot) (MayGo me) (λ s x. x.go) sends h

all_ask : (me : ℕ) (r : Running) (sends : List Outgoing) → All (IsAsk me r.sync.view r.fact.epoch) sends → All (IsQuestion r) sends
all_ask me r sends h = All-weaker (IsAsk me r.sync.view r.fact.epoch) (IsQuestion r) (λ s x. (x.member, x.at)) sends h

pub start_go : (fact : Fact) (me : ℕ) (trusted : Bool) (scan : Scan) → All (MayGo me) (row_start fact me trusted scan).1
start_go fact me trusted scan = all_go me (last_view fact.views) fact.epoch (row_start fact me trusted scan).1 (start_are fact me trusted scan)

pub resume_go : (me : ℕ) (r : Running) → AsksOthers me r → All (MayGo me) (row_resume r).1
resume_go me r h = all_go me r.sync.view r.fact.epoch (row_resume r).1 (resume_are me r h)

pub take_go : (tree : TreeVersion) (me from : ℕ) (give : Give) (own : Option (List ℕ)) (r : Running) → give.question.position.level ≤ levels tree → AsksOthers me r → All (MayGo me) (row_take tree from give own r).1
take_go tree me from give own r p h = all_go me r.sync.view r.fact.epoch (row_take tree from give own r).1 (take_are tree me from give own r p h)

pub start_ask : (fact : Fact) (me : ℕ) (trusted : Bool) (scan : Scan) → All (IsQuestion (row_start fact me trusted scan).0) (row_start fact me trusted scan).1
start_ask fact me trusted scan = all_ask me (row_start fact me trusted scan).0 (row_start fact me trusted scan).1 (start_are fact me trusted scan)

pub resume_ask : (me : ℕ) (r : Running) → AsksOthers me r → All (IsQuestion r) (row_resume r).1
resume_ask me r h = all_ask me r (row_resume r).1 (resume_are me r h)

pub take_ask : (tree : TreeVersion) (me from : ℕ) (give : Give) (own : Option (List ℕ)) (r : Running) → give.question.position.level ≤ levels tree → AsksOthers me r → All (IsQuestion r) (row_take tree from give own r).1
take_ask tree me from give own r p h = all_ask me r (row_take tree from give own r).1 (take_are tree me from give own r p h)
