-- The index of whole records, and of one record more.
use Rattle.std.proofs.Common.{◌≡◌, ◌≢◌, ℕ, ◌+◌, Bool, true, false, cond, List, ◌++◌, length, take, drop, Option, None, Some, refl, sym, ap, ◌∙◌, subst, arith, length-append}
use Rattle.std.proofs.Math.Seq.{drop-append-add}
use Rattle.std.proofs.lemmas.List.{take-append-le, drop-append-le, length-drop}
use Rattle.std.proofs.lemmas.Slice.Eq.{bytes_eq-Decides}
use Rattle.std.specs.HashMap.{HashMap, get}
use Rattle.ens_base.specs.Lists.{same_bytes}
use Rattle.environment.specs.Maps.{Entries, value_at, with_value}
use Rattle.environment.proofs.MapLaws.{found_after, others_after}
use Rattle.disk_stores.specs.Records.{entries_of}
use Rattle.disk_stores.specs.Logs.{IsAt, Indexes}
use Rattle.disk_stores.specs.declared.place.Place.{Place}
use Rattle.disk_stores.proofs.RecordLaws.{ReadsAs, whole_more, entries_more}

-- the index took this place under this name
abbrev pub Places : {S : Type 0} → List ℕ → Option Place → HashMap (List ℕ) Place S → HashMap (List ℕ) Place S → Type 0
Places name place old new = (q : List ℕ) → get same_bytes new q ≡ cond (same_bytes name q) place (get same_bytes old q)

pub same_name : (name q : List ℕ) → same_bytes name q ≡ true → name ≡ q
same_name name q at = (bytes_eq-Decides name q).0 at

pub at_itself : (name : List ℕ) → same_bytes name name ≡ true
at_itself name = (bytes_eq-Decides name name).1 refl

other_name : (name q : List ℕ) → same_bytes name q ≡ false → q ≢ name
other_name name q off same = absurd (let t : same_bytes name q ≡ true = (bytes_eq-Decides name q).1 (sym same) in grind (arith, t, off))

-- a place holds the same with more bytes behind it
pub at_more : (prefix chunk : List ℕ) (p : Option Place) (content : Option (List ℕ)) → IsAt prefix p content → IsAt (prefix ++ chunk) p content
at_more prefix chunk None content at = at
at_more prefix chunk (Some p) content at = (
  omega (arith, length-append prefix chunk, at.0),
  at.1 ∙ ap Some (sym (ap (take p.len) (drop-append-le p.at prefix chunk (omega (arith, at.0))) ∙ take-append-le p.len (drop p.at prefix) chunk (omega (arith, length-drop p.at prefix, at.0)))),
)

-- the place of the content of a record after whole ones
pub record IsPlaceOf (prefix chunk name content : List ℕ) (p : Place) : Type 0 where
  pub at : p.at ≡ length prefix + (10 + length name)
  pub len : p.len ≡ length content
  pub size : length chunk ≡ 11 + length name + length content
  pub holds : take (length content) (drop (10 + length name) chunk) ≡ content

placed_at : (prefix chunk name content : List ℕ) (p : Place) → IsPlaceOf prefix chunk name content p → IsAt (prefix ++ chunk) (Some p) (Some content)
placed_at prefix chunk name content p is = (
  omega (arith, length-append prefix chunk, is.at, is.len, is.size),
  ap Some (sym (ap (λ (n : ℕ). take p.len (drop n (prefix ++ chunk))) is.at ∙ ap (take p.len) (drop-append-add prefix chunk (10 + length name)) ∙ ap (λ (n : ℕ). take n (drop (10 + length name) chunk)) is.len ∙ is.holds)),
)

pub index_more : {S : Type 0} (prefix chunk name content : List ℕ) (p : Place) (old new : HashMap (List ℕ) Place S)
    → Indexes old prefix → ReadsAs chunk name content → IsPlaceOf prefix chunk name content p → Places name (Some p) old new → Indexes new (prefix ++ chunk)
index_more prefix chunk name content p old new indexed reads is places = record {
  whole = whole_more prefix chunk name content indexed.whole reads;
  each = λ q. subst (λ (o : Option Place). IsAt (prefix ++ chunk) o (value_at q (entries_of (prefix ++ chunk)))) (sym (places q))
      (subst (λ (es : Entries). IsAt (prefix ++ chunk) (cond (same_bytes name q) (Some p) (get same_bytes old q)) (value_at q es)) (sym (entries_more prefix chunk name content indexed.whole reads))
      (by q (same_bytes name q) refl));
}
  where
    by : (q : List ℕ) (b : Bool) → same_bytes name q ≡ b → IsAt (prefix ++ chunk) (cond b (Some p) (get same_bytes old q)) (value_at q (with_value name content (entries_of prefix)))
    by q true at =
        subst (λ (l : List ℕ). IsAt (prefix ++ chunk) (Some p) (value_at l (with_value name content (entries_of prefix)))) (same_name name q at)
        (subst (λ (o : Option (List ℕ)). IsAt (prefix ++ chunk) (Some p) o) (sym (found_after name content (entries_of prefix))) (placed_at prefix chunk name content p is))
    by q false off =
        subst (λ (o : Option (List ℕ)). IsAt (prefix ++ chunk) (get same_bytes old q) o) (sym (others_after name q content (entries_of prefix) (other_name name q off)))
        (at_more prefix chunk (get same_bytes old q) (value_at q (entries_of prefix)) (indexed.each q))

-- an index with the same places is as good
pub index_same : {S : Type 0} (old new : HashMap (List ℕ) Place S) (bytes : List ℕ) → ((q : List ℕ) → get same_bytes new q ≡ get same_bytes old q) → Indexes old bytes → Indexes new bytes
index_same old new bytes same indexed = record {
  whole = indexed.whole;
  each = λ q. subst (λ (o : Option Place). IsAt bytes o (value_at q (entries_of bytes))) (sym (same q)) (indexed.each q);
}

-- a place that is put back
pub restored : {S : Type 0} (name : List ℕ) (place : Place) (old middle new : HashMap (List ℕ) Place S) → Places name (Some place) old middle → Places name (get same_bytes old name) middle new
    → (q : List ℕ) → get same_bytes new q ≡ get same_bytes old q
restored name place old middle new first second q = second q ∙ ap (λ (o : Option Place). cond (same_bytes name q) (get same_bytes old name) o) (first q) ∙ by (same_bytes name q) refl
  where
    by : (b : Bool) → same_bytes name q ≡ b → cond b (get same_bytes old name) (cond b (Some place) (get same_bytes old q)) ≡ get same_bytes old q
    by true at = ap (get same_bytes old) (same_name name q at)
    by false off = refl
