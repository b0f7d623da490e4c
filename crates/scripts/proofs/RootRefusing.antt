-- Why a reader of lines refuses a source.
use Rattle.std.proofs.Common.{◌≡◌, ℕ, ◌<◌, List, [], ◌∷◌, ◌++◌, length, Option, Result, Err}
use Rattle.std.specs.Io.KnownBytes.{Consumes}
use Rattle.environment.specs.Lines.{HasNoFeed, BeginsLong}
use Rattle.schedule_input.specs.LineReading.{ReadsOn}
use Rattle.schedule_input.proofs.LineParts.{line_refused, long_refused, reads_as}
use Rattle.schedule_text.specs.Errors.{Stops}
use Rattle.schedule_text.specs.declared.error.ScheduleError.{ScheduleError}
use Rattle.schedule_text.specs.declared.error.ScheduleError.TheVariants.{Bad, Lines, Memory}
use Rattle.schedule_input.specs.Reading.{of_schedule}
use Rattle.schedule_input.specs.declared.read.ReadError.{ReadError}
use Rattle.schedule_input.specs.declared.read.ReadError.TheVariants as read
use Rattle.scripts.specs.RootInput.{RefusesBy}

module _ {S R : Type 0} (next : S → List ℕ → Result S ScheduleError) (end : S → List ℕ → Result R ScheduleError) where
  pub refuses_line : (a b : Option (List ℕ)) (s : S) (v : List ℕ) (e : ScheduleError) → HasNoFeed v → Consumes a b (v ++ 10 ∷ []) → Stops (next s v) e → RefusesBy next end a s (of_schedule e)
  refuses_line a b s v (Bad line cause) clear took bad = line_refused next end a b s v (Bad line cause) clear took bad
  refuses_line a b s v Lines clear took bad = line_refused next end a b s v Lines clear took bad
  refuses_line a b s v Memory clear took bad = tt

  pub refuses_long : (a : Option (List ℕ)) (s : S) (e : ScheduleError) → BeginsLong a → ((w : List ℕ) → 4400 < length w → (next s w ≡ Err e) × (end s w ≡ Err e)) → RefusesBy next end a s (of_schedule e)
  refuses_long a s (Bad line cause) begins bad = long_refused next end a s (Bad line cause) begins bad
  refuses_long a s Lines begins bad = long_refused next end a s Lines begins bad
  refuses_long a s Memory begins bad = tt

  pub refuses_later : (a b : Option (List ℕ)) (s t : S) (e : ReadError) → ReadsOn next end a s b t → RefusesBy next end b t e → RefusesBy next end a s e
  refuses_later a b s t (read.Bad line cause) on bad = reads_as next end a b s t (Err (Bad line cause)) on bad
  refuses_later a b s t read.Lines on bad = reads_as next end a b s t (Err Lines) on bad
  refuses_later a b s t read.Failed on bad = tt
  refuses_later a b s t read.Memory on bad = tt
