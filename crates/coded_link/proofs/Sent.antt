-- A sealed frame that the link below sent is the frame that was sent.
use Rattle.std.proofs.Common.{◌≡◌, ◌∙◌, ◌++◌, ℕ, List, [], ◌∷◌, Option, None, Some, Result, Ok, Err, ap, map}
use Rattle.std.specs.Prelude.{unwrap_or}
use Rattle.std.proofs.lemmas.List.{map-append}
use Rattle.environment.specs.Links.{Sends}
use Rattle.environment.specs.declared.errors.LinkError.{LinkError}
use Rattle.frame_codes.specs.Seals.{Keys, sent_as}
use Rattle.frame_codes.proofs.Opening.{sent_opens}
use Rattle.coded_link.specs.Coded.{frame_sent, frames_sent}

sealed_one : (k : Keys) (sent : List (ℕ × List ℕ)) (to : ℕ) (frame : List ℕ) → map (frame_sent k) (sent ++ (to, sent_as k frame) ∷ []) ≡ map (frame_sent k) sent ++ (to, frame) ∷ []
sealed_one k sent to frame = map-append (frame_sent k) sent _ ∙ ap (λ (o : Option (List ℕ)). map (frame_sent k) sent ++ (to, unwrap_or o []) ∷ []) (sent_opens k frame)

pub opened_is_sent : {T : Type 0} (k : Keys) (sent new : Option (List (ℕ × List ℕ))) (to : ℕ) (frame : List ℕ) (result : Result T LinkError) → Sends sent new to (sent_as k frame) result → Sends (frames_sent k sent) (frames_sent k new) to frame result
opened_is_sent k None new to frame result is = tt
opened_is_sent k (Some sent) new to frame (Ok x) is = ap (frames_sent k) is ∙ ap Some (sealed_one k sent to frame)
opened_is_sent k (Some sent) new to frame (Err e) is = ap (frames_sent k) is
