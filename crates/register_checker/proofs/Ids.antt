-- What a lookup by id finds.
use Rattle.std.proofs.Common.{◌≡◌, ◌≢◌, ℕ, zero, suc, ◌+◌, ◌<◌, ◌≤◌, ltb, Bool, true, false, cond, List, [], ◌∷◌, length, get_or, take, map, Option, None, Some, Bor, inl, inr, ◌⊎◌, refl, sym, ap, subst, ◌∙◌, arith, eqb-true}
use Rattle.std.specs.Prelude.{slice_get, IfSome, IfNone, is_some, nat_eq, ◌↔◌}
use Rattle.std.proofs.lemmas.Bool.{eq-eqb, true≢false, ltb-false}
use Rattle.std.proofs.lemmas.List.{take_more}
use Rattle.std.proofs.lemmas.Option.{same_Some}
use Rattle.ens_base.specs.Lists.{◌∈◌, AreDistinct}
use Rattle.ens_base.specs.declared.reply.Reply.{Reply}
use Rattle.register_model.specs.Histories.{IsDone, MayHave}
use Rattle.register_model.specs.declared.answer.Answer.{Answer}
use Rattle.register_checker.specs.Places.{ArePlaces}
use Rattle.ens_base.proofs.Lists.{in-map, in_append}

-- two items of a list with the same name are equal, if the names are distinct
pub one_of : {A : Type 0} (f : A → ℕ) (xs : List A) (x y : A) → AreDistinct (map f xs) → x ∈ xs → y ∈ xs → f x ≡ f y → x ≡ y
one_of f [] x y d hx hy e = absurd hx
one_of f (z ∷ zs) x y d (inl ex) (inl ey) e = ex ∙ sym ey
one_of f (z ∷ zs) x y d (inl ex) (inr hy) e = absurd (d.0 (let P : ℕ → Type 0 = λ n. n ∈ map f zs in subst P (sym e ∙ ap f ex) (in-map f zs y hy)))
one_of f (z ∷ zs) x y d (inr hx) (inl ey) e = absurd (d.0 (let P : ℕ → Type 0 = λ n. n ∈ map f zs in subst P (e ∙ ap f ey) (in-map f zs x hx)))
one_of f (z ∷ zs) x y d (inr hx) (inr hy) e = one_of f zs x y d.1 hx hy e

-- the item at the position of a name
pub at_name : {A : Type 0} (f : A → ℕ) (xs : List A) (place n : ℕ) (x : A) → slice_get (map f xs) place ≡ Some n → x ≡ get_or xs place x → (x ∈ xs) × (f x ≡ n)
at_name f [] place n x e g = absurd cc
at_name f (y ∷ ys) zero n x e g = (inl g, ap f g ∙ same_Some (f y) n e)
at_name f (y ∷ ys) (suc place) n x e g = let later = at_name f ys place n x e g in (inr later.0, later.1)

pub no_place : {A : Type 0} (f : A → ℕ) (xs : List A) (place n : ℕ) → slice_get (map f xs) place ≡ Some n → length xs ≤ place → ⊥
no_place f [] place n e short = cc
no_place f (y ∷ ys) zero n e short = omega arith
no_place f (y ∷ ys) (suc place) n e short = no_place f ys place n e (omega arith)

-- ## The lookup while it is built

pub record SoFar (find : ℕ → Option ℕ) (ids : List ℕ) (n : ℕ) : Type 0 where
  pub found : (id place : ℕ) → find id ≡ Some place → slice_get ids place ≡ Some id
  pub missing : (id : ℕ) → find id ≡ None → ¬ (id ∈ take n ids)

get_at : (ids : List ℕ) (n d : ℕ) → n < length ids → slice_get ids n ≡ Some (get_or ids n d)
get_at [] n d lt = absurd (omega arith)
get_at (x ∷ ids) zero d lt = refl
get_at (x ∷ ids) (suc n) d lt = get_at ids n d (omega arith)

module _ (find next : ℕ → Option ℕ) (ids : List ℕ) (n d : ℕ) (lt : n < length ids) (updates : (q : ℕ) → next q ≡ cond (nat_eq (get_or ids n d) q) (Some n) (find q)) (old : SoFar find ids n) where
  found_next : (id place : ℕ) (b : Bool) → nat_eq (get_or ids n d) id ≡ b → next id ≡ Some place → slice_get ids place ≡ Some id
  found_next id place true t e =
      let here : Some n ≡ Some place = sym (updates id ∙ ap (λ c. cond c (Some n) (find id)) t) ∙ e in
      let at : get_or ids n d ≡ id = eqb-true (get_or ids n d) id t in
      ap (λ (k : ℕ). slice_get ids k) (sym (same_Some n place here)) ∙ get_at ids n d lt ∙ ap (λ (k : ℕ). Some k) at
  found_next id place false t e = old.found id place (sym (updates id ∙ ap (λ c. cond c (Some n) (find id)) t) ∙ e)

  missing_next : (id : ℕ) (b : Bool) → nat_eq (get_or ids n d) id ≡ b → next id ≡ None → ¬ (id ∈ take (n + 1) ids)
  missing_next id true t e h = let bad : Some n ≡ None = sym (updates id ∙ ap (λ c. cond c (Some n) (find id)) t) ∙ e in absurd cc
  missing_next id false t e h = by (in_append (take n ids) (get_or ids n d ∷ []) id (let P : List ℕ → Type 0 = λ l. id ∈ l in subst P (take_more ids n d lt) h))
    where
      by : (id ∈ take n ids) ⊎ (id ∈ (get_or ids n d ∷ [])) → ⊥
      by (inl there) = old.missing id (sym (updates id ∙ ap (λ c. cond c (Some n) (find id)) t) ∙ e) there
      by (inr (inl is)) = true≢false (sym (eq-eqb (get_or ids n d) id (sym is)) ∙ t)
      by (inr (inr no_more)) = no_more

  pub so_far_next : SoFar next ids (n + 1)
  so_far_next = record { found = λ id place e. found_next id place (nat_eq (get_or ids n d) id) refl e; missing = λ id e. missing_next id (nat_eq (get_or ids n d) id) refl e }

-- ## An item by its name

module _ {A : Type 0} (name : A → ℕ) (items : List A) (find : ℕ → Option ℕ) (id : ℕ) (places : ArePlaces find (map name items)) where
  pub no_item : None ≡ find id → (x : A) → x ∈ items → name x ≢ id
  no_item none x there e = places.missing id (sym none) (let P : ℕ → Type 0 = λ n. n ∈ map name items in subst P e (in-map name items x there))

  pub item_found : (place : ℕ) (o : Option (Bor A)) → Some place ≡ find id → IfSome o (λ x. x.now ≡ get_or items place x.now) → IfSome o (λ x. (x.now ∈ items) × (name x.now ≡ id))
  item_found place None at got = tt
  item_found place (Some x) at got = at_name name items place id x.now (places.found id place (sym at)) got

  pub item_there : (place : ℕ) (o : Option (Bor A)) → Some place ≡ find id → is_some o ≡ ltb place (length items) → IfNone o ((x : A) → x ∈ items → name x ≢ id)
  item_there place None at got = absurd (no_place name items place id (places.found id place (sym at)) (ltb-false place (length items) (sym got)))
  item_there place (Some x) at got = tt

-- ## The reply of an answer, by the id of its call

module _ (answers : List Answer) (find : ℕ → Option ℕ) (id : ℕ) (places : ArePlaces find (map (λ a. a.id) answers)) (once : AreDistinct (map (λ a. a.id) answers)) where
  pub no_answer : None ≡ find id → (reply : Reply) → MayHave answers id reply
  no_answer none reply a there e done = absurd (places.missing id (sym none) (let P : ℕ → Type 0 = λ n. n ∈ map (λ d. d.id) answers in subst P e (in-map (λ d. d.id) answers a there)))

  pub no_answer_at : (place : ℕ) → Some place ≡ find id → length answers ≤ place → ⊥
  no_answer_at place at none = no_place (λ d. d.id) answers place id (places.found id place (sym at)) none

  module _ (place : ℕ) (a : Answer) (at : Some place ≡ find id) (got : a ≡ get_or answers place a) where
    named : (a ∈ answers) × (a.id ≡ id)
    named = at_name (λ d. d.id) answers place id a (places.found id place (sym at)) got

    same : (b : Answer) → b ∈ answers → b.id ≡ id → b ≡ a
    same b there e = one_of (λ d. d.id) answers b a once there named.0 (e ∙ sym named.1)

    pub reply_found : (o : Option (Bor Reply)) → IfSome o (λ r. (r.now ≡ a.reply) × IsDone a.reply) → IfSome o (λ r. (reply : Reply) → MayHave answers id reply ↔ (reply ≡ r.now))
    reply_found None h = tt
    reply_found (Some r) h = λ reply. (λ may. may a named.0 named.1 h.1 ∙ sym h.0, λ is b there e done. is ∙ h.0 ∙ ap (λ (d : Answer). d.reply) (sym (same b there e)))

    pub reply_none : (o : Option (Bor Reply)) → IfNone o (¬ (IsDone a.reply)) → IfNone o ((reply : Reply) → MayHave answers id reply)
    reply_none None h = λ reply b there e done. absurd (h (let P : Answer → Type 0 = λ d. IsDone d.reply in subst P (same b there e) done))
    reply_none (Some r) h = tt
