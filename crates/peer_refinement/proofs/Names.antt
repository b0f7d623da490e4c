-- Which object an entry names.
use Rattle.std.proofs.Common.{◌≡◌, ℕ, Bool, true, false, ◌&&◌, if◌then◌else◌, List, None, Some, Result, Ok, Err, refl, sym, ap, subst, ◌∙◌}
use Rattle.std.specs.Result.{result_ok}
use Rattle.std.proofs.lemmas.Bool.{and_parts}
use Rattle.md5.specs.Md5.{md5}
use Rattle.ens_base.specs.Epochs.{same_version}
use Rattle.ens_base.specs.Lists.{◌∈◌, same_bytes}
use Rattle.ens_base.proofs.Lists.{bytes_same}
use Rattle.ens_base.specs.declared.entry.Entry.{Entry}
use Rattle.ens_base.specs.declared.epoch.Version.{Version}
use Rattle.fields.proofs.GrammarLaws.{ok_is}
use Rattle.stored_formats.specs.Objects.{object_spelling, object_of}
use Rattle.stored_formats.specs.declared.object_error.ObjectError.{ObjectError}
use Rattle.stored_formats.specs.declared.object.Object.{Object}
use Rattle.stored_formats.proofs.ObjectLaws.{object_again}
use Rattle.object_commands.specs.Kept.{object_in, is_named, matching}
use Rattle.protocol_laws.specs.Protocol.{State}
use Rattle.role_laws.specs.Tables.{Ghosts}
use Rattle.leader_refinement.proofs.Numbers.{rank_some}
use Rattle.leader_refinement.specs.Seen.{rank}
use Rattle.peer_refinement.specs.Trees.{AreFree}
use Rattle.peer_refinement.specs.Naming.{hash_of, object_of_version, version_string, VersionSays, EntrySays, Names}
use Rattle.peer_refinement.specs.RequestLaws.{DecodedAreNamed, SpelledAreNamed, EntriesAreOne}

-- an object that matches an entry
record Matches (e : Entry) (o : Object) (digest : List ℕ) (named : Object) : Type 0 where
  object : o ≡ named
  digest_is : digest ≡ e.digest

matched : (e : Entry) (o : Object) (digest : List ℕ) (named : Object) → matching e (Some (o, digest)) ≡ Some named → Matches e o digest named
matched e o digest named h = by_name (is_named e o digest) refl h
  where
    some_object : (a b : Object) → Some a ≡ Some b → a ≡ b
    some_object a b e = cc

    by_name : (b : Bool) → is_named e o digest ≡ b → (if b then Some o else None) ≡ Some named → Matches e o digest named
    by_name true is h = record {
      object = some_object o named h;
      digest_is = bytes_same digest e.digest (and_parts (same_bytes o.key e.key && same_version o.version e.version) (same_bytes digest e.digest) is).1;
    }
    by_name false other h = absurd cc

decoded : (bytes : List ℕ) (o : Object) → object_in bytes ≡ Some o → object_of bytes ≡ Ok o
decoded bytes o e = by_read (object_of bytes) e
  where
    by_read : (r : Result Object ObjectError) → result_ok r ≡ Some o → r ≡ Ok o
    by_read (Ok x) e = let is : x ≡ o = cc in rw is refl
    by_read (Err fault) e = absurd cc

-- what is decoded from hashed bytes with the digest of a version's object is that object
pub version_decoded : (s : State) (strings : List (List ℕ)) (v : Version) (bytes : List ℕ) (o : Object) → AreFree strings → VersionSays s strings v → bytes ∈ strings → object_in bytes ≡ Some o → md5 bytes ≡ md5 (version_string s v) → o ≡ object_of_version s v
version_decoded s strings v bytes o free says hashed decodes digest =
    let same : bytes ≡ version_string s v = free bytes (version_string s v) hashed says.hashed digest in
    ok_is ObjectError o (object_of_version s v) (sym (decoded bytes o decodes) ∙ object_again bytes (object_of_version s v) says.object same)

names_own : (s : State) (strings : List (List ℕ)) (e : Entry) → EntrySays s strings e → Names s e (object_of_version s e.version)
names_own s strings e says = record {
  version = refl;
  key = sym says.key;
  digest = says.digest;
  object = record { some = rank_some e.version; stamp = refl; content = refl };
}

pub decoded_named : (s : State) → DecodedAreNamed s
decoded_named s strings e bytes o named free says hashed decodes matches =
    let found : Matches e o (md5 bytes) named = matched e o (md5 bytes) named matches in
    let is : o ≡ object_of_version s e.version = version_decoded s strings e.version bytes o free says.version hashed decodes (found.digest_is ∙ says.digest) in
    subst (λ (x : Object). Names s e x) (sym is ∙ found.object) (names_own s strings e says)

pub spelled_named : (s : State) → SpelledAreNamed s
spelled_named s strings e o named free says obeys hashed matches = decoded_named s strings e (object_spelling o) o named free says hashed (ap result_ok (object_again (object_spelling o) o obeys refl)) matches

pub one_entry : (s : State) → EntriesAreOne s
one_entry s strings e f first second same = from_parts
    (first.key ∙ ap (λ (v : Version). s.objects.key (rank v)) same ∙ sym second.key) same
    (first.digest ∙ ap (λ (v : Version). md5 (version_string s v)) same ∙ sym second.digest)
  where
    from_parts : e.key ≡ f.key → e.version ≡ f.version → e.digest ≡ f.digest → e ≡ f
    from_parts k v d = λ i. record { key = k i; version = v i; digest = d i }

-- what is said of an object that was found, in the words of a leader
pub named_found : (s : State) (g : Ghosts) (key : List ℕ) (e : Entry) (o : Object) → g.hash ≡ hash_of → e.key ≡ key → Names s e o → (o.version ≡ e.version) × (e.digest ≡ g.hash e.version key o.stamp o.value)
named_found s g key e o hash on_key names = (
  names.version,
  rw hash (
      subst (λ (j : List ℕ). e.digest ≡ hash_of e.version j o.stamp o.value) (names.key ∙ on_key)
      (subst (λ (v : Version). e.digest ≡ hash_of v o.key o.stamp o.value) names.version names.digest)),
)
