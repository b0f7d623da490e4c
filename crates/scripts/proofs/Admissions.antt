-- An event whose id was not taken in.
use Rattle.std.proofs.Common.{◌≡◌, ℕ, Bool, List, Option, None, Some, Err, refl, sym, ap, ◌∙◌}
use Rattle.std.specs.List.{list_any}
use Rattle.lexemes.specs.declared.cause.WordError.{WordError}
use Rattle.lexemes.specs.declared.cause.WordError.TheVariants.{Bad, Memory}
use Rattle.scripts.specs.Progress.{Admits, Logs, came_before, has_id, id_of, is_among}
use Rattle.scripts.specs.declared.event.RootEvent.{RootEvent}

module _ (events : List RootEvent) (ids : ℕ → Bool) (known : (id : ℕ) → ids id ≡ list_any (has_id id) events) where
  among_came : (id : Option ℕ) → is_among ids id ≡ came_before events id
  among_came None = refl
  among_came (Some id) = known id

  pub refused : (event : RootEvent) (id : Option ℕ) (new : List RootEvent) (now : ℕ → Bool) (e : WordError) → id ≡ id_of event → new ≡ events → Admits ids id now (Err e) → Logs events event new (Err e)
  refused event id new now (Bad cause) is same admits = (admits.0, ap (came_before events) (sym is) ∙ sym (among_came id) ∙ admits.1, same)
  refused event id new now Memory is same admits = same
