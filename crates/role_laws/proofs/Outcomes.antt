-- What commands come to on settled objects.
use Rattle.std.proofs.Common.{◌≡◌, ℕ, ◌<◌, Bool, true, false, List, Option, None, Some, eqb, eqb-true, arith, ap, refl, sym, ◌∙◌}
use Rattle.std.proofs.lemmas.Bool.Decides.{nat_tests}
use Rattle.ens_base.specs.declared.epoch.Version.{Version}
use Rattle.ens_base.specs.declared.command.Command.{Command}
use Rattle.ens_base.specs.declared.command.Command.TheVariants.{Get, PutOnce, Update, Append, Add, Swap, Over, Delete}
use Rattle.ens_base.specs.declared.reply.Reply.{Reply}
use Rattle.register_model.specs.declared.register.Register.{Register}
use Rattle.register_model.specs.declared.register.Register.TheVariants.{Absent, Present}
use Rattle.register_model.specs.Registers.{Keeps, outcome, written}
use Rattle.register_model.specs.Histories.{IsDone, IsRefused}
use Rattle.protocol_laws.proofs.Maps.{zero_not}
use Rattle.protocol_laws.proofs.Descent.{Whole}
use Rattle.protocol_laws.specs.Book.{version_of, register_at}
use Rattle.protocol_laws.specs.Protocol.{State}
use Rattle.role_laws.specs.Rows.{needs_bytes}
use Rattle.role_laws.specs.Tables.{Object, Ghosts, is_gone}
use Rattle.role_laws.specs.Leaders.{IsObjectOf, HeldHolds, IsNoClash}
use Rattle.protocol_laws.proofs.Outcomes.{keeps_then}
use Rattle.std.proofs.lemmas.Bool.{true≢false}

-- an answer without a write completes the call
pub keeps_done : (c : Command) (x : Register) (r : Reply) → outcome c x ≡ Keeps r → IsDone r
keeps_done = keeps_then IsDone tt tt (λ stamp bytes. tt)

pub done_not_refused : (r : Reply) → IsDone r → IsRefused r → ⊥
done_not_refused (Reply.Value stamp bytes) d e = e
done_not_refused Reply.NotFound d e = e
done_not_refused (Reply.Ok stamp) d e = e
done_not_refused Reply.Failed d e = e
done_not_refused Reply.Unavailable d e = d
done_not_refused Reply.Busy d e = d
done_not_refused Reply.Lost d e = d
done_not_refused Reply.Timeout d e = d

-- the object of a version gives its register
pub object_register : (s : State) (v : ℕ) (x : Object) → IsObjectOf s v x → written x.stamp x.content ≡ register_at s.book v
object_register s v x a = by_cases (eqb v 0) refl
  where
    by_cases : (b : Bool) → eqb v 0 ≡ b → written x.stamp x.content ≡ register_at s.book v
    by_cases true t = absurd (grind (arith, nat_tests, a.some))
    by_cases false t = rw (t, a.stamp, a.content) refl

-- once and update need to know the stamp, and whether it is a tombstone
pub stamp_is_enough : (c : Command) (stamp : Version) (a b : List ℕ) → needs_bytes c ≡ false → outcome c (Present stamp a) ≡ outcome c (Present stamp b)
stamp_is_enough (PutOnce v) stamp a b h = refl
stamp_is_enough (Update w v) stamp a b h = refl
stamp_is_enough (Over v) stamp a b h = refl
stamp_is_enough Delete stamp a b h = refl
stamp_is_enough Get stamp a b h = absurd (true≢false h)
stamp_is_enough (Append t) stamp a b h = absurd (true≢false h)
stamp_is_enough (Add n) stamp a b h = absurd (true≢false h)
stamp_is_enough (Swap x y) stamp a b h = absurd (true≢false h)

-- ## What is held

held_register : (s : State) (u : ℕ) → (u ≡ 0 → ⊥) → written (s.book.stamp u) (s.book.content u) ≡ register_at s.book u
held_register s u some = by_cases (eqb u 0) refl
  where
    by_cases : (b : Bool) → eqb u 0 ≡ b → written (s.book.stamp u) (s.book.content u) ≡ register_at s.book u
    by_cases true t = absurd (some (eqb-true u 0 t))
    by_cases false t = rw t refl

gone_written : (stamp : Version) (c : Option (List ℕ)) → true ≡ is_gone c → written stamp c ≡ Absent
gone_written stamp None e = refl
gone_written stamp (Some bytes) e = absurd (true≢false e)

pub gone_register : (g : Ghosts) (s : State) (d : ℕ) (k : List ℕ) (u : ℕ) (stamp : Version) (digest : List ℕ) → Whole s.objects → HeldHolds g s d k u stamp digest true → Absent ≡ register_at s.book u
gone_register g s d k u stamp digest w a = sym (gone_written (s.book.stamp u) (s.book.content u) a.same_gone) ∙ held_register s u (zero_not u (w.basics.led u a.newest.proposed))

there_outcome : (c : Command) (stamp : Version) (bytes : List ℕ) (z : Option (List ℕ)) → needs_bytes c ≡ false → false ≡ is_gone z → outcome c (Present stamp bytes) ≡ outcome c (written stamp z)
there_outcome c stamp bytes None h e = absurd (true≢false (sym e))
there_outcome c stamp bytes (Some other) h e = stamp_is_enough c stamp bytes other h

-- of a value, whatever its bytes
pub stamp_outcome : (g : Ghosts) (s : State) (d : ℕ) (k : List ℕ) (u : ℕ) (stamp : Version) (digest bytes : List ℕ) (c : Command) → Whole s.objects → HeldHolds g s d k u stamp digest false → needs_bytes c ≡ false → outcome c (Present stamp bytes) ≡ outcome c (register_at s.book u)
stamp_outcome g s d k u stamp digest bytes c w a h = ap (λ (y : Version). outcome c (Present y bytes)) a.same_stamp ∙ there_outcome c (s.book.stamp u) bytes (s.book.content u) h a.same_gone ∙ ap (λ (x : Register). outcome c x) (held_register s u (zero_not u (w.basics.led u a.newest.proposed)))

some_version : (u : ℕ) → (u ≡ 0 → ⊥) → 0 < u
some_version u n = by_cases (eqb u 0) refl
  where
    by_cases : (b : Bool) → eqb u 0 ≡ b → 0 < u
    by_cases true t = absurd (n (eqb-true u 0 t))
    by_cases false t = grind (arith, nat_tests)

-- an object with the digest that is held is the settled one, unless digests clash
pub matched_object : (g : Ghosts) (s : State) (d : ℕ) (k : List ℕ) (u : ℕ) (stamp : Version) (digest : List ℕ) (gone : Bool) (x : Object) → Whole s.objects → IsNoClash g s u k x → HeldHolds g s d k u stamp digest gone → g.hash (version_of u) k x.stamp x.content ≡ digest → IsObjectOf s u x
matched_object g s d k u stamp digest gone x w apart a e = let same = apart (e ∙ a.same_digest) in record { some = some_version u (zero_not u (w.basics.led u a.newest.proposed)); stamp = same.0; content = same.1 }
