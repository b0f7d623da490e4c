-- The status and the text of each problem.
use Rattle.std.specs.Prelude.{ℕ, List, [], ◌∷◌, ◌++◌, codes}
use Rattle.http_calls.specs.declared.problem.Allowed.{Allowed}
use Rattle.http_calls.specs.declared.problem.Allowed.TheVariants.{Keys, Reads, Posts, Puts}
use Rattle.http_calls.specs.declared.problem.Problem.{Problem}
use Rattle.http_calls.specs.declared.problem.Problem.TheVariants.{BadTarget, BadKey, BadParameter, BadCondition, BadNumber, BadBody, RepeatedField, ForeignOrigin, UnknownPath, UnknownMethod, TooLong, UnknownHost, UnknownCondition, Late, Full, Silent}

-- the methods that a path allows, as a list
abbrev pub allowed_methods : Allowed → List ℕ
allowed_methods Keys = codes "GET, HEAD, PUT, DELETE, POST"
allowed_methods Reads = codes "GET, HEAD"
allowed_methods Posts = codes "POST"
allowed_methods Puts = codes "PUT"

abbrev pub problem_status : Problem → ℕ
problem_status BadTarget = 400
problem_status BadKey = 400
problem_status BadParameter = 400
problem_status BadCondition = 400
problem_status BadNumber = 400
problem_status BadBody = 400
problem_status RepeatedField = 400
problem_status ForeignOrigin = 403
problem_status UnknownPath = 404
problem_status (UnknownMethod allowed) = 405
problem_status TooLong = 413
problem_status UnknownHost = 421
problem_status UnknownCondition = 501
problem_status Late = 503
problem_status Full = 507
problem_status Silent = 504

-- a line
abbrev pub line : List ℕ → List ℕ
line text = text ++ 10 ∷ []

abbrev pub problem_text : Problem → List ℕ
problem_text BadTarget = line (codes "the target is not a path")
problem_text BadKey = line (codes "a key is one segment of 1 to 64 bytes")
problem_text BadParameter = line (codes "unknown parameter")
problem_text BadCondition = line (codes "the condition is not a stamp")
problem_text BadNumber = line (codes "the body is not a number below 2^64")
problem_text BadBody = line (codes "this request has no body")
problem_text RepeatedField = line (codes "a field stands twice")
problem_text ForeignOrigin = line (codes "foreign origin")
problem_text UnknownPath = line (codes "unknown path")
problem_text (UnknownMethod allowed) = line (codes "method not allowed")
problem_text TooLong = line (codes "a value has at most 1024 bytes")
problem_text UnknownHost = line (codes "unknown host")
problem_text UnknownCondition = line (codes "unknown condition")
problem_text Late = line (codes "no effect: the call waited too long for its turn")
problem_text Full = line (codes "no effect: no room for the write")
problem_text Silent = line (codes "unknown: it may have taken effect, or may yet")
