-- More of a script is followed, behind what was followed already.
use Rattle.std.proofs.Common.{◌≡◌, ◌≤◌, ◌+◌, ◌∙◌, ℕ, zero, suc, List, [], ◌∷◌, ◌++◌, length, take, drop, Option, refl, sym, ap, subst, append_assoc, append-nil, arith, length-append}
use Rattle.scripts.specs.declared.line.ScriptLine.{ScriptLine}
use Rattle.scripts.specs.declared.line.ScriptLine.TheVariants.{Event, Turn}
use Rattle.cluster.specs.Recordings.{Follows, IsPart, Recording, heard, heard_all}

abbrev Given : Type 0
Given = List (Option (List ℕ))

pub take_prefix : (xs ys : Given) → take (length xs) (xs ++ ys) ≡ xs
take_prefix [] ys = refl
take_prefix (x ∷ xs) ys = ap (λ (l : Given). x ∷ l) (take_prefix xs ys)

pub drop_prefix : (xs ys : Given) → drop (length xs) (xs ++ ys) ≡ ys
drop_prefix [] ys = refl
drop_prefix (x ∷ xs) ys = drop_prefix xs ys

-- these looks were heard, one after another
pub heard_more : (xs ys : Given) (r : Recording) → heard_all (xs ++ ys) r ≡ heard_all ys (heard_all xs r)
heard_more [] ys r = refl
heard_more (x ∷ xs) ys r = heard_more xs ys (heard x r)

-- a turn of so many looks, and what follows it
pub turn_then : (count : ℕ) (part : List ScriptLine) (looks more : Given) (r s : Recording) → length looks ≡ count → Follows part more (heard_all looks r) s → Follows (Turn count ∷ part) (looks ++ more) r s
turn_then count part looks more r s is follows =
    let many : count ≤ length (looks ++ more) = omega (arith, is, length-append looks more) in
    let rest : drop count (looks ++ more) ≡ more = ap (λ (n : ℕ). drop n (looks ++ more)) (sym is) ∙ drop_prefix looks more in
    let prefix : take count (looks ++ more) ≡ looks = ap (λ (n : ℕ). take n (looks ++ more)) (sym is) ∙ take_prefix looks more in
    (many, rw rest (rw prefix follows))

-- one turn alone
pub turn_alone : (count : ℕ) (looks : Given) (r : Recording) → length looks ≡ count → Follows (Turn count ∷ []) looks r (heard_all looks r)
turn_alone count looks r is = subst (λ (l : Given). Follows (Turn count ∷ []) l r (heard_all looks r)) (append-nil looks) (turn_then count [] looks [] r (heard_all looks r) is (refl, refl))

-- what comes of these lines and looks is what comes of those, behind these
pub record Leads (done : List ScriptLine) (looks : Given) (first r : Recording) : Type 0 where
  pub on : (part : List ScriptLine) (more : Given) (s : Recording) → Follows part more r s → Follows (done ++ part) (looks ++ more) first s

pub leads_none : (r : Recording) → Leads [] [] r r
leads_none r = record { on = λ part more s follows. follows }

pub leads_turn : (count : ℕ) (looks : Given) (r : Recording) → length looks ≡ count → Leads (Turn count ∷ []) looks r (heard_all looks r)
leads_turn count looks r is = record { on = λ part more s follows. turn_then count part looks more r s is follows }

-- the looks of one turn alone
pub few_looks : (count : ℕ) (more : Given) → count ≤ length more → drop count more ≡ [] → length more ≡ count
few_looks zero [] many none = refl
few_looks zero (x ∷ more) many none = absurd (nothing x more none)
  where
    nothing : (x : Option (List ℕ)) (more : Given) → x ∷ more ≡ [] → ⊥
    nothing x more e = cc e
few_looks (suc count) [] many none = absurd (omega (arith, many))
few_looks (suc count) (x ∷ more) many none = ap (λ (n : ℕ). suc n) (few_looks count more (omega (arith, many)) none)

pub all_looks : (count : ℕ) (more : Given) → length more ≡ count → take count more ≡ more
all_looks zero [] is = refl
all_looks zero (x ∷ more) is = absurd (omega (arith, is))
all_looks (suc count) [] is = refl
all_looks (suc count) (x ∷ more) is = ap (λ (l : Given). x ∷ l) (all_looks count more (omega (arith, is)))

-- a turn that was followed with these looks
pub turn_leads : (count : ℕ) (more : Given) (r s : Recording) → Follows (Turn count ∷ []) more r s → Leads (Turn count ∷ []) more r s
turn_leads count more r s follows =
    let many : length more ≡ count = few_looks count more follows.0 follows.1.0 in
    let is : s ≡ heard_all more r = follows.1.1 ∙ ap (λ (l : Given). heard_all l r) (all_looks count more many) in
    subst (λ (q : Recording). Leads (Turn count ∷ []) more r q) (sym is) (leads_turn count more r many)

pub leads_on : (xs ys : List ScriptLine) (first_looks looks : Given) (a b c : Recording) → Leads xs first_looks a b → Leads ys looks b c → Leads (xs ++ ys) (first_looks ++ looks) a c
leads_on xs ys first_looks looks a b c first second = record {
  on = λ part more s follows.
      subst (λ (l : List ScriptLine). Follows l ((first_looks ++ looks) ++ more) a s) (sym (append_assoc xs ys part))
      (subst (λ (l : Given). Follows (xs ++ (ys ++ part)) l a s) (sym (append_assoc first_looks looks more)) (first.on (ys ++ part) (looks ++ more) s (second.on part more s follows)));
}

-- what was followed so far
pub leads_follows : (done : List ScriptLine) (looks : Given) (first r : Recording) → Leads done looks first r → Follows done looks first r
leads_follows done looks first r leads = subst (λ (l : List ScriptLine). Follows l looks first r) (append-nil done) (subst (λ (l : Given). Follows (done ++ []) l first r) (append-nil looks) (leads.on [] [] r (refl, refl)))

-- ---- parts of a script

-- lines that were followed to their end, and a part of the next line
pub part_after : (done : List ScriptLine) (part script : List ScriptLine) → IsPart part script → IsPart (done ++ part) (done ++ script)
part_after [] part script is = is
part_after (Event event ∷ done) part script is = (refl, part_after done part script is)
part_after (Turn count ∷ []) [] script is = omega arith
part_after (Turn count ∷ []) (line ∷ part) script is = (refl, is)
part_after (Turn count ∷ line ∷ done) part script is = (refl, part_after (line ∷ done) part script is)

-- a part of the first line is one of all
pub part_of_first : (part : List ScriptLine) (line : ScriptLine) (script : List ScriptLine) → IsPart part (line ∷ []) → IsPart part (line ∷ script)
part_of_first [] line script is = tt
part_of_first (Event event ∷ []) (Event first) script is = (is.0, tt)
part_of_first (Event event ∷ more ∷ part) (Event first) script is = absurd (none more part is.1)
  where
    none : (line : ScriptLine) (part : List ScriptLine) → IsPart (line ∷ part) [] → ⊥
    none (Event event) part is = is
    none (Turn count) [] is = is
    none (Turn count) (line ∷ part) is = is
part_of_first (Turn count ∷ []) (Turn most) script is = is
part_of_first (Turn count ∷ more ∷ part) (Turn most) script is = absurd (none more part is.1)
  where
    none : (line : ScriptLine) (part : List ScriptLine) → IsPart (line ∷ part) [] → ⊥
    none (Event event) part is = is
    none (Turn count) [] is = is
    none (Turn count) (line ∷ part) is = is
part_of_first (Event event ∷ part) (Turn most) script is = absurd is
part_of_first (Turn count ∷ []) (Event first) script is = absurd is
part_of_first (Turn count ∷ more ∷ part) (Event first) script is = absurd is

-- the whole is a part
pub part_whole : (script : List ScriptLine) → IsPart script script
part_whole script = subst (λ (l : List ScriptLine). IsPart l l) (append-nil script) (part_after script [] [] tt)
