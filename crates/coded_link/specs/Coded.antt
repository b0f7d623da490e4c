-- What a link tells of its frames, where the link below it tells of the sealed ones.
use Rattle.std.specs.Prelude.{◌≡◌, ℕ, List, [], Option, None, Some, map, unwrap_or}
use Rattle.std.specs.Option.{option_map}
use Rattle.ens_base.specs.Causes.{counted}
use Rattle.frame_codes.specs.Seals.{Keys, opened}

-- the frame in the bytes, or no bytes, which are no frame
abbrev pub frame_in : Keys → List ℕ → List ℕ
frame_in k bytes = unwrap_or (opened k bytes) []

-- the frame in the bytes that were sent, with the number that they were sent to
abbrev pub frame_sent : Keys → ℕ × List ℕ → ℕ × List ℕ
frame_sent k sent = (sent.0, frame_in k sent.1)

abbrev pub frames_sent : Keys → Option (List (ℕ × List ℕ)) → Option (List (ℕ × List ℕ))
frames_sent k sent = option_map (map (frame_sent k)) sent

-- the frame in the bytes that a look gave, or nothing if it gave nothing
abbrev pub frame_given : Keys → Option (List ℕ) → Option (List ℕ)
frame_given k given = option_map (frame_in k) given

abbrev pub frames_given : Keys → Option (List (Option (List ℕ))) → Option (List (Option (List ℕ)))
frames_given k given = option_map (map (frame_given k)) given

-- one more refusal, if the bytes do not open
abbrev pub refusals : Option (List ℕ) → ℕ → ℕ
refusals None before = counted before
refusals (Some frame) before = before

-- the refusals after a look at bytes that were known to wait, or that nothing did
abbrev pub CountsRefusal : Keys → Option (Option (List ℕ)) → ℕ → ℕ → Type 0
CountsRefusal k None before now = Unit {0}
CountsRefusal k (Some None) before now = now ≡ before
CountsRefusal k (Some (Some bytes)) before now = now ≡ refusals (opened k bytes) before
