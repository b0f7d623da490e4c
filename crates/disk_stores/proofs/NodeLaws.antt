-- Nodes and the top record as entries of one map.
use Rattle.std.proofs.Common.{◌≡◌, ℕ, List, [], ◌∷◌, length, Option, None, Some, refl, ap, ◌∙◌, arith, ◌==◌, if◌then◌else◌}
use Rattle.std.specs.Ordering.{match_ordering}
use Rattle.std.specs.declared.cmp.Ordering.{Ordering}
use Rattle.std.specs.declared.cmp.Ordering.TheVariants.{Less, Equal, Greater}
use Rattle.ens_base.specs.Lists.{bytes_cmp}
use Rattle.environment.specs.Maps.{Entries, value_at, with_value}
use Rattle.environment.specs.MemStores.{Held}
use Rattle.environment.proofs.MapLaws.{found_after, others_after}
use Rattle.disk_stores.specs.NodeMaps.{named, digest_in, nodes_in}

abbrev held : Entries → Option (List ℕ) → Held
held es top = record { entries = es; top = top }

named_write : (byte : ℕ) (name bytes : List ℕ) (es : Entries) → named (with_value (byte ∷ name) bytes es) ≡ with_value (byte ∷ name) bytes (named es)
named_write byte name bytes [] = refl
named_write byte name bytes (([], old) ∷ es) = refl
named_write byte name bytes ((c ∷ m, old) ∷ es) = by (bytes_cmp (byte ∷ name) (c ∷ m))
  where
    by : (o : Ordering) → named (match_ordering o ((byte ∷ name, bytes) ∷ (c ∷ m, old) ∷ es) ((c ∷ m, bytes) ∷ es) ((c ∷ m, old) ∷ with_value (byte ∷ name) bytes es))
        ≡ match_ordering o ((byte ∷ name, bytes) ∷ (c ∷ m, old) ∷ es) ((c ∷ m, bytes) ∷ es) ((c ∷ m, old) ∷ with_value (byte ∷ name) bytes es)
    by Less = refl
    by Equal = refl
    by Greater = refl

named_top : (bytes : List ℕ) (es : Entries) → named (with_value [] bytes es) ≡ named es
named_top bytes [] = refl
named_top bytes (([], old) ∷ es) = refl
named_top bytes ((c ∷ m, old) ∷ es) = refl

named_read : (byte : ℕ) (name : List ℕ) (es : Entries) → value_at (byte ∷ name) (named es) ≡ value_at (byte ∷ name) es
named_read byte name [] = refl
named_read byte name (([], old) ∷ es) = refl
named_read byte name ((c ∷ m, old) ∷ es) = refl

-- a digest is not the empty name
pub node_found : (digest : List ℕ) (es : Entries) → length digest ≡ 16 → value_at digest (nodes_in es).entries ≡ value_at digest es
node_found [] es long = absurd (omega (arith, long))
node_found (byte ∷ name) es long = named_read byte name es

pub node_written : (digest bytes : List ℕ) (es : Entries) → length digest ≡ 16 → nodes_in (with_value digest bytes es) ≡ record { entries = with_value digest bytes (nodes_in es).entries; top = (nodes_in es).top }
node_written [] bytes es long = absurd (omega (arith, long))
node_written (byte ∷ name) bytes es long =
    ap (λ (l : Entries). held l (digest_in (value_at [] (with_value (byte ∷ name) bytes es)))) (named_write byte name bytes es)
    ∙ ap (λ (o : Option (List ℕ)). held (with_value (byte ∷ name) bytes (named es)) (digest_in o)) (others_after (byte ∷ name) [] bytes es (λ same. absurd cc))

pub top_written : (digest : List ℕ) (es : Entries) → length digest ≡ 16 → nodes_in (with_value [] digest es) ≡ record { entries = (nodes_in es).entries; top = Some digest }
top_written digest es long =
    ap (λ (l : Entries). held l (digest_in (value_at [] (with_value [] digest es)))) (named_top digest es)
    ∙ ap (λ (o : Option (List ℕ)). held (named es) (digest_in o)) (found_after [] digest es)
    ∙ ap (λ (n : ℕ). held (named es) (if n == 16 then Some digest else None)) long
