-- Loops that follow a plan for each item of a list, and calls that use the store or the hasher alone.
use Rattle.std.proofs.Common.{◌≡◌, ℕ, zero, suc, ◌+◌, ◌<◌, List, [], ◌∷◌, ◌++◌, Option, Some, Result, Ok, Err, length, get_or, map, refl, ap, sym, ◌∙◌, subst, arith, append_assoc, append-nil, inl, inr}
use Rattle.hash_book.specs.Hashing.{Book}
use Rattle.environment.specs.Stores.{NodeCall, NodeAnswer}
use Rattle.environment.specs.declared.errors.StoreError.{StoreError}
use Rattle.tree_node.specs.declared.position.Position.{Position}
use Rattle.synctree.specs.declared.error.TreeError.{TreeError}
use Rattle.synctree.specs.declared.error.TreeError.TheVariants.{Damaged, Failed, Clash, BookFull, Memory}
use Rattle.synctree.specs.Halves.{HasherDid}
use Rattle.synctree.specs.Installs.{store_does, store_refuses}
use Rattle.synctree.specs.Plans.{Call, Node, Hash, AnswerOf, Plan, Done, Broken, Ask, ◌>>=◌, Ends, Stops, Did}
use Rattle.synctree.specs.Outsides.{outside_does, outside_refuses}
use Rattle.synctree.proofs.Composing.{stops_memory, did_then, did_err}
use Rattle.synctree.proofs.Exits.{DidOutside}
use Rattle.tree_repair.specs.Hashers.{hasher_does, hasher_refuses}
use Rattle.tree_repair.specs.Levels.{for_each, hash_read, hash_all}

pub map_at : {A B : Type 0} (f : A → B) (xs : List A) (i : ℕ) (d : A) (e : B) → i < length xs → get_or (map f xs) i e ≡ f (get_or xs i d)
map_at f [] i d e l = absurd (omega arith)
map_at f (x ∷ xs) zero d e l = refl
map_at f (x ∷ xs) (suc i) d e l = map_at f xs i d e (omega arith)

pub length_one : {A : Type 0} (xs : List A) (x : A) → length (xs ++ x ∷ []) ≡ length xs + 1
length_one [] x = refl
length_one (y ∷ xs) x = let more : suc (length xs + 1) ≡ suc (length xs) + 1 = omega arith in ap suc (length_one xs x) ∙ more

-- ## A plan for each item

module _ {S : Type 0} (does : S → (call : Call) → AnswerOf call → S → Type 0) (refuses : S → Call → TreeError → S → Type 0) where
  module _ {A B : Type 0} (p : A → Plan B) where
    abbrev pub joined : List B → Result (List B) TreeError → Result (List B) TreeError
    joined done (Ok ys) = Ok (done ++ ys)
    joined done (Err e) = Err e

    -- what the rest does from u, after these values, is what all of it does from s
    abbrev pub GoesOn : List A → List A → List B → S → S → Type 0
    GoesOn all rest done s u = (r : Result (List B) TreeError) (t : S) → Did does refuses (for_each p rest) u r t → Did does refuses (for_each p all) s (joined done r) t

    pub goes_next : (all rest : List A) (done : List B) (x : A) (y : B) (s u v : S) → GoesOn all (x ∷ rest) done s u → Did does refuses (p x) u (Ok y) v → GoesOn all rest (done ++ y ∷ []) s v
    goes_next all rest done x y s u v k d (Ok ys) t h = subst (λ (zs : List B). Did does refuses (for_each p all) s (Ok zs) t) (sym (append_assoc done (y ∷ []) ys))
        (k (Ok (y ∷ ys)) t (did_then does refuses (p x) (λ z. for_each p rest >>= (λ zs. Done (z ∷ zs))) u v t y (Ok (y ∷ ys)) d (did_then does refuses (for_each p rest) (λ zs. Done (y ∷ zs)) v t t ys (Ok (y ∷ ys)) h ([], (refl, refl, refl)))))
    goes_next all rest done x y s u v k d (Err e) t h = k (Err e) t (did_then does refuses (p x) (λ z. for_each p rest >>= (λ zs. Done (z ∷ zs))) u v t y (Err e) d (did_err does refuses (for_each p rest) (λ zs. Done (y ∷ zs)) v t e h))

    pub goes_err : (all rest : List A) (done : List B) (x : A) (s u v : S) (e : TreeError) → GoesOn all (x ∷ rest) done s u → Did does refuses (p x) u (Err e) v → Did does refuses (for_each p all) s (Err e) v
    goes_err all rest done x s u v e k d = k (Err e) v (did_err does refuses (p x) (λ z. for_each p rest >>= (λ zs. Done (z ∷ zs))) u v e d)

    pub goes_memory : (all rest : List A) (done : List B) (s u : S) → GoesOn all rest done s u → Did does refuses (for_each p all) s (Err Memory) u
    goes_memory all rest done s u k = k (Err Memory) u (stops_memory does refuses (for_each p rest) u)

    pub goes_end : (all : List A) (done : List B) (s u : S) → GoesOn all [] done s u → Did does refuses (for_each p all) s (Ok done) u
    goes_end all done s u k = subst (λ (zs : List B). Did does refuses (for_each p all) s (Ok zs) u) (append-nil done) (k (Ok []) u ([], (refl, refl, refl)))

  abbrev pub HashesOn : List (Option (List ℕ)) → List (Option (List ℕ)) → S → S → Type 0
  HashesOn all rest s u = (r : Result (Unit {0}) TreeError) (t : S) → Did does refuses (hash_all rest) u r t → Did does refuses (hash_all all) s r t

  pub hashes_next : (all rest : List (Option (List ℕ))) (x : Option (List ℕ)) (s u v : S) → HashesOn all (x ∷ rest) s u → Did does refuses (hash_read x) u (Ok tt) v → HashesOn all rest s v
  hashes_next all rest x s u v k d r t h = k r t (did_then does refuses (hash_read x) (λ _. hash_all rest) u v t tt r d h)

  pub hashes_err : (all rest : List (Option (List ℕ))) (x : Option (List ℕ)) (s u v : S) (e : TreeError) → HashesOn all (x ∷ rest) s u → Did does refuses (hash_read x) u (Err e) v → Did does refuses (hash_all all) s (Err e) v
  hashes_err all rest x s u v e k d = k (Err e) v (did_err does refuses (hash_read x) (λ _. hash_all rest) u v e d)

  pub hashes_end : (all : List (Option (List ℕ))) (s u : S) → HashesOn all [] s u → Did does refuses (hash_all all) s (Ok tt) u
  hashes_end all s u k = k (Ok tt) u ([], (refl, refl, refl))

-- ## The store alone, the hasher alone

module _ {N H : Type 0} (may : N → (call : NodeCall) → NodeAnswer call → N → Type 0) (loses : N → NodeCall → StoreError → N → Type 0) (top : N → Option (Option (List ℕ))) (faults : N → ℕ)
    (kept : H → Option Book) (clashes fulls : H → ℕ) where
  store_ends : {A : Type 0} (plan : Plan A) (s t : N) (h : H) (xs : List (List ℕ)) (out : Result A Position) → Ends (store_does may top faults) plan s xs out t → Ends (outside_does may top faults kept clashes fulls) plan (s, h) xs out (t, h)
  store_ends (Done x) s t h xs out (e, is, same) = (e, is, ap (λ n. (n, h)) same)
  store_ends (Broken at) s t h xs out (e, is, same) = (e, is, ap (λ n. (n, h)) same)
  store_ends (Ask (Node call) next) s t h xs out (answer, u, rest, d, e, more) = (answer, (u, h), rest, (d.0, d.1, d.2, refl), e, store_ends (next answer) u t h rest out more)
  store_ends (Ask (Hash bytes) next) s t h xs out (answer, u, rest, d, e, more) = absurd d

  store_stops : {A : Type 0} (plan : Plan A) (s t : N) (h : H) (e : TreeError) → Stops (store_does may top faults) (store_refuses loses top faults) plan s e t → Stops (outside_does may top faults kept clashes fulls) (outside_refuses loses top faults kept clashes fulls) plan (s, h) e (t, h)
  store_stops (Done x) s t h e (m, same) = (m, ap (λ n. (n, h)) same)
  store_stops (Broken at) s t h e (m, same) = (m, ap (λ n. (n, h)) same)
  store_stops (Ask call next) s t h e (inl (m, same)) = inl (m, ap (λ n. (n, h)) same)
  store_stops (Ask (Node call) next) s t h (Damaged at) (inr (inl d)) = absurd d
  store_stops (Ask (Node call) next) s t h Failed (inr (inl d)) = inr (inl (d.0, d.1, d.2, d.3, refl))
  store_stops (Ask (Node call) next) s t h (Clash first second) (inr (inl d)) = absurd d
  store_stops (Ask (Node call) next) s t h (BookFull n) (inr (inl d)) = absurd d
  store_stops (Ask (Node call) next) s t h Memory (inr (inl d)) = inr (inl (d.0, d.1, d.2, refl))
  store_stops (Ask (Hash bytes) next) s t h e (inr (inl d)) = absurd d
  store_stops (Ask (Node call) next) s t h e (inr (inr (answer, u, d, more))) = inr (inr (answer, (u, h), (d.0, d.1, d.2, refl), store_stops (next answer) u t h e more))
  store_stops (Ask (Hash bytes) next) s t h e (inr (inr (answer, u, d, more))) = absurd d

  -- what the store does alone is done with any hasher beside it
  pub store_did : {A : Type 0} (plan : Plan A) (s t : N) (h : H) (r : Result A TreeError) → Did (store_does may top faults) (store_refuses loses top faults) plan s r t → DidOutside may loses top faults kept clashes fulls plan (s, h) r (t, h)
  store_did plan s t h (Ok x) (xs, d) = (xs, store_ends plan s t h xs (Ok x) d)
  store_did plan s t h (Err (Damaged at)) (xs, d) = (xs, store_ends plan s t h xs (Err at) d)
  store_did plan s t h (Err Failed) d = store_stops plan s t h Failed d
  store_did plan s t h (Err (Clash first second)) d = store_stops plan s t h (Clash first second) d
  store_did plan s t h (Err (BookFull n)) d = store_stops plan s t h (BookFull n) d
  store_did plan s t h (Err Memory) d = store_stops plan s t h Memory d

  hasher_ends : {A : Type 0} (plan : Plan A) (n : N) (s t : H) (xs : List (List ℕ)) (out : Result A Position) → Ends (hasher_does kept clashes fulls) plan s xs out t → Ends (outside_does may top faults kept clashes fulls) plan (n, s) xs out (n, t)
  hasher_ends (Done x) n s t xs out (e, is, same) = (e, is, ap (λ h. (n, h)) same)
  hasher_ends (Broken at) n s t xs out (e, is, same) = (e, is, ap (λ h. (n, h)) same)
  hasher_ends (Ask (Node call) next) n s t xs out (answer, u, rest, d, e, more) = absurd d
  hasher_ends (Ask (Hash bytes) next) n s t xs out (answer, u, rest, d, e, more) = (answer, (n, u), rest, (refl, d.0, d.1, d.2), e, hasher_ends (next answer) n u t rest out more)

  hasher_stops : {A : Type 0} (plan : Plan A) (n : N) (s t : H) (e : TreeError) → Stops (hasher_does kept clashes fulls) (hasher_refuses kept clashes fulls) plan s e t → Stops (outside_does may top faults kept clashes fulls) (outside_refuses loses top faults kept clashes fulls) plan (n, s) e (n, t)
  hasher_stops (Done x) n s t e (m, same) = (m, ap (λ h. (n, h)) same)
  hasher_stops (Broken at) n s t e (m, same) = (m, ap (λ h. (n, h)) same)
  hasher_stops (Ask call next) n s t e (inl (m, same)) = inl (m, ap (λ h. (n, h)) same)
  hasher_stops (Ask (Node call) next) n s t e (inr (inl d)) = absurd d
  hasher_stops (Ask (Hash bytes) next) n s t (Damaged at) (inr (inl d)) = absurd d
  hasher_stops (Ask (Hash bytes) next) n s t Failed (inr (inl d)) = absurd d
  hasher_stops (Ask (Hash bytes) next) n s t (Clash first second) (inr (inl d)) = inr (inl (refl, d.0, d.1))
  hasher_stops (Ask (Hash bytes) next) n s t (BookFull b) (inr (inl d)) = inr (inl (refl, d.0, d.1))
  hasher_stops (Ask (Hash bytes) next) n s t Memory (inr (inl d)) = inr (inl (refl, d.0, d.1))
  hasher_stops (Ask (Node call) next) n s t e (inr (inr (answer, u, d, more))) = absurd d
  hasher_stops (Ask (Hash bytes) next) n s t e (inr (inr (answer, u, d, more))) = inr (inr (answer, (n, u), (refl, d.0, d.1, d.2), hasher_stops (next answer) n u t e more))

  -- what the hasher does alone is done with any store beside it
  pub hasher_did : {A : Type 0} (plan : Plan A) (n : N) (s t : H) (r : Result A TreeError) → Did (hasher_does kept clashes fulls) (hasher_refuses kept clashes fulls) plan s r t → DidOutside may loses top faults kept clashes fulls plan (n, s) r (n, t)
  hasher_did plan n s t (Ok x) (xs, d) = (xs, hasher_ends plan n s t xs (Ok x) d)
  hasher_did plan n s t (Err (Damaged at)) (xs, d) = (xs, hasher_ends plan n s t xs (Err at) d)
  hasher_did plan n s t (Err Failed) d = hasher_stops plan n s t Failed d
  hasher_did plan n s t (Err (Clash first second)) d = hasher_stops plan n s t (Clash first second) d
  hasher_did plan n s t (Err (BookFull b)) d = hasher_stops plan n s t (BookFull b) d
  hasher_did plan n s t (Err Memory) d = hasher_stops plan n s t Memory d

module _ {H : Type 0} (kept : H → Option Book) (clashes fulls : H → ℕ) where
  pub admit_did : (read : Option (List ℕ)) (bytes b : List ℕ) (s t : H) (r : Result (Unit {0}) TreeError) → read ≡ Some bytes → b ≡ bytes → HasherDid {A = Unit {0}} kept clashes fulls b s r t → Did (hasher_does kept clashes fulls) (hasher_refuses kept clashes fulls) (hash_read read) s r t
  admit_did read bytes b s t r is same d = subst (λ (q : Option (List ℕ)). Did (hasher_does kept clashes fulls) (hasher_refuses kept clashes fulls) (hash_read q) s r t) (sym is)
      (by r (subst (λ (q : List ℕ). HasherDid {A = Unit {0}} kept clashes fulls q s r t) same d))
    where
      by : (r : Result (Unit {0}) TreeError) → HasherDid {A = Unit {0}} kept clashes fulls bytes s r t → Did (hasher_does kept clashes fulls) (hasher_refuses kept clashes fulls) (Ask (Hash bytes) Done) s r t
      by (Ok x) d = (bytes ∷ [], (tt, t, [], d, refl, (refl, refl, refl)))
      by (Err (Damaged at)) d = absurd d
      by (Err Failed) d = absurd d
      by (Err (Clash first second)) d = inr (inl d)
      by (Err (BookFull n)) d = inr (inl d)
      by (Err Memory) d = inr (inl d)
