-- What was gathered so far, after one more mark.
use Rattle.std.proofs.Common.{◌≡◌, ℕ, ◌++◌, ◌∷◌, [], List, Bool, true, false, cond, eqb, max, arith, refl, sym, ap, ◌∙◌, Option, None, Some}
use Rattle.ens_base.proofs.Lists.{bytes_itself}
use Rattle.std.specs.Prelude.{if◌then◌else◌, ◌&&◌}
use Rattle.std.specs.BTreeMap.{is_at}
use Rattle.std.specs.Map.{lookup}
use Rattle.std.specs.Option.{option_or, option_cmp}
use Rattle.std.specs.Ordering.{is_eq}
use Rattle.std.proofs.lemmas.List.{append_assoc, append-nil}
use Rattle.ens_base.specs.Epochs.{version_cmp}
use Rattle.ens_base.specs.Lists.{same_bytes}
use Rattle.ens_base.specs.declared.epoch.Version.{Version}
use Rattle.register_model.specs.Orders.{rank, rank_or_none, lower_or_none, parent_in, call_in, newest_in, reads_on, write_of, block, blocks, settled_chain, order}
use Rattle.register_model.specs.declared.note.Note.{Note}
use Rattle.register_model.specs.declared.note.Note.TheVariants as note
use Rattle.history_scribe.specs.Told.{Fits, FitsIfAny, proposal_at, reads_at, parent_or, call_or, TellsBefore, Tells}
use Rattle.history_scribe.specs.declared.told.Proposal.{Proposal}
use Rattle.history_scribe.specs.declared.told.Told.{Told}
use Rattle.history_scribe.proofs.Ranks.{same_rank, same_base}

-- ## The beginning and the end

pub begins : (t : Told) (notes : List Note) (key : List ℕ) → t.newest ≡ None → t.proposals.entries ≡ [] → ((base : Option Version) → reads_at t base ≡ []) → TellsBefore t notes notes key
begins t notes key newest proposals reads = record {
  newest = rw newest (omega arith);
  parent = λ v h. ap (λ es. parent_or (lookup (is_at (version_cmp v)) es) (rank v) (parent_in notes key (rank v))) proposals;
  call = λ v h. ap (λ es. call_or (lookup (is_at (version_cmp v)) es) (call_in notes key (rank v))) proposals;
  reads = λ base h. ap (λ (xs : List ℕ). xs ++ reads_on notes key (rank_or_none base)) (reads base);
}

pub told_reads : (t : Told) (notes : List Note) (key : List ℕ) → Tells t notes key → (base : Option Version) → FitsIfAny base → reads_at t base ≡ reads_on notes key (rank_or_none base)
told_reads t notes key told base fits = sym (append-nil (reads_at t base)) ∙ told.reads base fits

-- ## A proposal

parent_first : (o : Option Proposal) (b : Bool) (p : Proposal) (v other : ℕ) → parent_or (option_or o (cond b (Some p) None)) v other ≡ parent_or o v (cond b (lower_or_none (rank_or_none p.parent) v) other)
parent_first None true p v other = refl
parent_first None false p v other = refl
parent_first (Some q) b p v other = refl

call_first : (o : Option Proposal) (b : Bool) (p : Proposal) (other : Option ℕ) → call_or (option_or o (cond b (Some p) None)) other ≡ call_or o (cond b p.call other)
call_first None true p other = refl
call_first None false p other = refl
call_first (Some q) b p other = refl

test_is : (key : List ℕ) (b c : Bool) → b ≡ c → (same_bytes key key && c) ≡ b
test_is key b c e = rw (bytes_itself key) (sym e)

pub takes_proposal : (s t : Told) (rest all : List Note) (key : List ℕ) (v : Version) (p : Proposal) → Fits v
    → ((q : Version) → proposal_at t q ≡ option_or (proposal_at s q) (if is_eq (version_cmp v q) then Some p else None)) → t.newest ≡ s.newest → t.reads ≡ s.reads
    → TellsBefore s (note.Proposed key v p.parent p.call ∷ rest) all key → TellsBefore t rest all key
takes_proposal s t rest all key v p fits proposals newest reads old = record {
  newest = rw newest old.newest;
  parent = λ q h.
      ap (λ (o : Option Proposal). parent_or o (rank q) (parent_in rest key (rank q))) (proposals q)
      ∙ parent_first (proposal_at s q) (is_eq (version_cmp v q)) p (rank q) (parent_in rest key (rank q))
      ∙ ap (λ (b : Bool). parent_or (proposal_at s q) (rank q) (cond b (lower_or_none (rank_or_none p.parent) (rank q)) (parent_in rest key (rank q)))) (sym (test_is key (is_eq (version_cmp v q)) (eqb (rank v) (rank q)) (same_rank v q fits h)))
      ∙ old.parent q h;
  call = λ q h.
      ap (λ (o : Option Proposal). call_or o (call_in rest key (rank q))) (proposals q)
      ∙ call_first (proposal_at s q) (is_eq (version_cmp v q)) p (call_in rest key (rank q))
      ∙ ap (λ (b : Bool). call_or (proposal_at s q) (cond b p.call (call_in rest key (rank q)))) (sym (test_is key (is_eq (version_cmp v q)) (eqb (rank v) (rank q)) (same_rank v q fits h)))
      ∙ old.call q h;
  reads = λ base h. rw reads (old.reads base h);
}

-- ## A settled version

pub takes_settled : (s t : Told) (rest all : List Note) (key : List ℕ) (v : Version)
    → rank_or_none t.newest ≡ max (rank_or_none s.newest) (rank v) → t.proposals ≡ s.proposals → t.reads ≡ s.reads
    → TellsBefore s (note.Settled key v ∷ rest) all key → TellsBefore t rest all key
takes_settled s t rest all key v newest proposals reads old = record {
  newest = omega (arith, newest, before);
  parent = λ q h. rw proposals (old.parent q h);
  call = λ q h. rw proposals (old.call q h);
  reads = λ base h. rw reads (old.reads base h);
}
  where
    before : max (rank_or_none s.newest) (max (rank v) (newest_in rest key)) ≡ newest_in all key
    before = rw (bytes_itself key) at old.newest

-- ## A read

read_behind : (b : Bool) (xs ys : List ℕ) (i : ℕ) → cond b (xs ++ i ∷ []) xs ++ ys ≡ xs ++ cond b (i ∷ ys) ys
read_behind true xs ys i = append_assoc xs (i ∷ []) ys
read_behind false xs ys i = refl

pub takes_read : (s t : Told) (rest all : List Note) (key : List ℕ) (i : ℕ) (base : Option Version) → FitsIfAny base
    → t.newest ≡ s.newest → t.proposals ≡ s.proposals → ((b : Option Version) → reads_at t b ≡ (if is_eq (option_cmp version_cmp base b) then reads_at s b ++ i ∷ [] else reads_at s b))
    → TellsBefore s (note.Read i key base ∷ rest) all key → TellsBefore t rest all key
takes_read s t rest all key i base fits newest proposals reads old = record {
  newest = rw newest old.newest;
  parent = λ q h. rw proposals (old.parent q h);
  call = λ q h. rw proposals (old.call q h);
  reads = λ b h.
      ap (λ (xs : List ℕ). xs ++ reads_on rest key (rank_or_none b)) (reads b)
      ∙ read_behind (is_eq (option_cmp version_cmp base b)) (reads_at s b) (reads_on rest key (rank_or_none b)) i
      ∙ ap (λ (c : Bool). reads_at s b ++ cond c (i ∷ reads_on rest key (rank_or_none b)) (reads_on rest key (rank_or_none b))) (sym (test_is key (is_eq (option_cmp version_cmp base b)) (eqb (rank_or_none base) (rank_or_none b)) (same_base base b fits h)))
      ∙ old.reads b h;
}

-- ## The order

pub block_written : (t : Told) (notes : List Note) (key : List ℕ) (v : Version) (call : Option ℕ) (calls mid new reads : List ℕ) → Tells t notes key → Fits v
    → call ≡ call_in notes key (rank v) → mid ≡ calls ++ write_of call → reads ≡ reads_at t (Some v) → new ≡ mid ++ reads → new ≡ calls ++ block notes key (rank v)
block_written t notes key v call calls mid new reads told fits e f g h = rw (h, f, e, g, told_reads t notes key told (Some v) fits) (append_assoc calls (write_of (call_in notes key (rank v))) (reads_on notes key (rank v)))

pub order_begun : (t : Told) (notes : List Note) (key : List ℕ) (calls reads versions : List ℕ) → Tells t notes key → reads ≡ reads_at t None → calls ≡ reads → versions ≡ settled_chain notes key → calls ++ blocks notes key versions ≡ order notes key
order_begun t notes key calls reads versions told e f g = λ i. (f ∙ e ∙ told_reads t notes key told None tt) i ++ blocks notes key (g i)

-- ## A call that may fail
