-- One plan after another.
use Rattle.std.proofs.Common.{◌≡◌, ℕ, List, ◌++◌, Result, Ok, Err, refl, ap, ◌∙◌, inl, inr}
use Rattle.synctree.specs.TreeNode.{Position}
use Rattle.synctree.specs.declared.error.TreeError.{TreeError}
use Rattle.synctree.specs.declared.error.TreeError.TheVariants.{Damaged, Failed, Clash, BookFull, Memory}
use Rattle.synctree.specs.Plans.{Call, Node, Hash, AnswerOf, Plan, Done, Broken, Ask, ◌>>=◌, hashed, Ends, Stops, Did}

-- three plans one after another
pub in_turn : {A B C : Type 0} (p : Plan A) (f : A → Plan B) (g : B → Plan C) → (p >>= f >>= g) ≡ (p >>= (λ x. f x >>= g))
in_turn (Done x) f g = refl
in_turn (Broken at) f g = refl
in_turn (Ask call next) f g = λ i. Ask call (λ answer. in_turn (next answer) f g i)

pub hashed_append : (call : Call) (rest ys : List (List ℕ)) → hashed call rest ++ ys ≡ hashed call (rest ++ ys)
hashed_append (Node call) rest ys = refl
hashed_append (Hash bytes) rest ys = refl

module _ {S : Type 0} (does : S → (call : Call) → AnswerOf call → S → Type 0) (refuses : S → Call → TreeError → S → Type 0) where
  ends_then : {A B : Type 0} (p : Plan A) (f : A → Plan B) (s u t : S) (xs ys : List (List ℕ)) (x : A) (out : Result B Position) → Ends does p s xs (Ok x) u → Ends does (f x) u ys out t → Ends does (p >>= f) s (xs ++ ys) out t
  ends_then (Done y) f s u t xs ys x out (e, is, same) then =
      let one : x ≡ y = ok_once x y is in rw (e, ← one, ← same) then
    where
      ok_once : {A : Type 0} (a b : A) → (let r : Result A Position = Ok a in r) ≡ Ok b → a ≡ b
      ok_once a b e = cc
  ends_then (Broken at) f s u t xs ys x out (e, is, same) then = absurd cc
  ends_then (Ask call next) f s u t xs ys x out (answer, v, rest, d, e, more) then = (answer, v, rest ++ ys, d, ap (λ zs. zs ++ ys) e ∙ hashed_append call rest ys, ends_then (next answer) f v u t rest ys x out more then)

  ends_broken : {A B : Type 0} (p : Plan A) (f : A → Plan B) (s t : S) (xs : List (List ℕ)) (at : Position) → Ends does p s xs (Err at) t → Ends does (p >>= f) s xs (Err at) t
  ends_broken (Done y) f s t xs at (e, is, same) = absurd cc
  ends_broken (Broken b) f s t xs at (e, is, same) = (e, broken at b is, same)
    where
      broken : {A B : Type 0} (a b : Position) → (let r : Result A Position = Err a in r) ≡ Err b → (let r : Result B Position = Err a in r) ≡ Err b
      broken a b e = let one : a ≡ b = cc in ap Err one
  ends_broken (Ask call next) f s t xs at (answer, v, rest, d, e, more) = (answer, v, rest, d, e, ends_broken (next answer) f v t rest at more)

  -- any plan may stop, out of memory
  pub stops_memory : {A : Type 0} (p : Plan A) (s : S) → Stops does refuses p s Memory s
  stops_memory (Done x) s = (refl, refl)
  stops_memory (Broken at) s = (refl, refl)
  stops_memory (Ask call next) s = inl (refl, refl)

  stops_first : {A B : Type 0} (p : Plan A) (f : A → Plan B) (s t : S) (e : TreeError) → Stops does refuses p s e t → Stops does refuses (p >>= f) s e t
  stops_first (Done x) f s t e (m, same) = rw (m, same) (stops_memory (f x) s)
  stops_first (Broken at) f s t e h = h
  stops_first (Ask call next) f s t e (inl h) = inl h
  stops_first (Ask call next) f s t e (inr (inl h)) = inr (inl h)
  stops_first (Ask call next) f s t e (inr (inr (answer, u, d, more))) = inr (inr (answer, u, d, stops_first (next answer) f u t e more))

  stops_then : {A B : Type 0} (p : Plan A) (f : A → Plan B) (s u t : S) (xs : List (List ℕ)) (x : A) (e : TreeError) → Ends does p s xs (Ok x) u → Stops does refuses (f x) u e t → Stops does refuses (p >>= f) s e t
  stops_then (Done y) f s u t xs x e (n, is, same) then =
      let one : x ≡ y = ok_once x y is in rw (← one, ← same) then
    where
      ok_once : {A : Type 0} (a b : A) → (let r : Result A Position = Ok a in r) ≡ Ok b → a ≡ b
      ok_once a b e = cc
  stops_then (Broken at) f s u t xs x e (n, is, same) then = absurd cc
  stops_then (Ask call next) f s u t xs x e (answer, v, rest, d, n, more) then = inr (inr (answer, v, d, stops_then (next answer) f v u t rest x e more then))

  -- the first part returned a value, and the second did what follows it
  pub did_then : {A B : Type 0} (p : Plan A) (f : A → Plan B) (s u t : S) (x : A) (r : Result B TreeError) → Did does refuses p s (Ok x) u → Did does refuses (f x) u r t → Did does refuses (p >>= f) s r t
  did_then p f s u t x (Ok y) (xs, a) (ys, b) = (xs ++ ys, ends_then p f s u t xs ys x (Ok y) a b)
  did_then p f s u t x (Err (Damaged at)) (xs, a) (ys, b) = (xs ++ ys, ends_then p f s u t xs ys x (Err at) a b)
  did_then p f s u t x (Err Failed) (xs, a) b = stops_then p f s u t xs x Failed a b
  did_then p f s u t x (Err (Clash first second)) (xs, a) b = stops_then p f s u t xs x (Clash first second) a b
  did_then p f s u t x (Err (BookFull n)) (xs, a) b = stops_then p f s u t xs x (BookFull n) a b
  did_then p f s u t x (Err Memory) (xs, a) b = stops_then p f s u t xs x Memory a b

  -- the first part failed, and so does the whole
  pub did_err : {A B : Type 0} (p : Plan A) (f : A → Plan B) (s t : S) (e : TreeError) → Did does refuses p s (Err e) t → Did does refuses (p >>= f) s (Err e) t
  did_err p f s t (Damaged at) (xs, a) = (xs, ends_broken p f s t xs at a)
  did_err p f s t Failed a = stops_first p f s t Failed a
  did_err p f s t (Clash first second) a = stops_first p f s t (Clash first second) a
  did_err p f s t (BookFull n) a = stops_first p f s t (BookFull n) a
  did_err p f s t Memory a = stops_first p f s t Memory a

  -- the first call of a plan was answered
  pub did_ask : {A : Type 0} (call : Call) (next : AnswerOf call → Plan A) (s u t : S) (answer : AnswerOf call) (r : Result A TreeError) → does s call answer u → Did does refuses (next answer) u r t → Did does refuses (Ask call next) s r t
  did_ask call next s u t answer (Ok y) d (ys, b) = (hashed call ys, (answer, u, ys, d, refl, b))
  did_ask call next s u t answer (Err (Damaged at)) d (ys, b) = (hashed call ys, (answer, u, ys, d, refl, b))
  did_ask call next s u t answer (Err Failed) d b = inr (inr (answer, u, d, b))
  did_ask call next s u t answer (Err (Clash first second)) d b = inr (inr (answer, u, d, b))
  did_ask call next s u t answer (Err (BookFull n)) d b = inr (inr (answer, u, d, b))
  did_ask call next s u t answer (Err Memory) d b = inr (inr (answer, u, d, b))
