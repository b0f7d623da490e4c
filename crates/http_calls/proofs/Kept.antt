-- No condition is dropped on the way from the fields to the command.
use Rattle.std.proofs.Common.{◌≡◌, ℕ, Bool, true, false, not, cond, ◌==◌, List, length, Option, Some, None, Result, Ok, Err, is_some, IsFalse, refl, sym, ap, ◌∙◌, codes, nat_le}
use Rattle.ens_base.specs.declared.command.Command.{Command}
use Rattle.ens_base.specs.declared.command.Command.TheVariants.{Update, Get as GetValue}
use Rattle.ens_base.specs.declared.epoch.Version.{Version}
use Rattle.http1.specs.Fields.{Header}
use Rattle.http_calls.specs.declared.call.Asked.TheVariants as Asks
use Rattle.http_calls.specs.declared.call.Call.{Call}
use Rattle.http_calls.specs.declared.condition.Condition.{Condition}
use Rattle.http_calls.specs.declared.condition.Condition.TheVariants.{IfMatch}
use Rattle.http_calls.specs.declared.method.Method.{Method}
use Rattle.http_calls.specs.declared.method.Method.TheVariants.{Get, Head, Put, Delete, Post, Other}
use Rattle.http_calls.specs.declared.page.Page.{Page}
use Rattle.http_calls.specs.declared.problem.Problem.{Problem}
use Rattle.http_calls.specs.declared.problem.Problem.TheVariants.{TooLong, BadBody, UnknownCondition}
use Rattle.http_calls.specs.Calls.{known_of, wait_of, get_of, put_of, delete_of, command_of, call_of, asked_page, key_segment, asked_key, asked_at, asked_by}
use Rattle.http_calls.specs.Conditions.{match_stamp, has_date, chosen, unless_dated, condition_of}
use Rattle.http_calls.specs.Fields.{field_of}
use Rattle.http_calls.specs.Methods.{is_write}
use Rattle.http_calls.specs.Outcomes.{◌>>=◌}
use Rattle.http_calls.specs.Pages.{page_of}
use Rattle.http_calls.specs.Stamps.{stamp_of, tag_text}
use Rattle.http_calls.specs.Targets.{path_of, query_of, key_of, value_of}
use Rattle.http_calls.proofs.Tags.{tag_read}

-- where two steps give a value, so does the first
bound : {A B : Type 0} (r : Result A Problem) (f : A → Result B Problem) (x : B) → (r >>= f) ≡ Ok x → (a : A) × (r ≡ Ok a) × (f a ≡ Ok x)
bound (Ok a) f x is = (a, refl, is)
bound (Err e) f x is = cc

same_ok : {A : Type 0} (x y : A) → ◌≡◌ {A = Result A Problem} (Ok x) (Ok y) → x ≡ y
same_ok x y is = cc

-- what the call of a key was made of
record Made (method : Method) (target body : List ℕ) (fields : List Header) (call : Call) : Type 0 where
  segment : List ℕ
  condition : Condition
  stated : condition_of fields ≡ Ok condition
  made : call_of segment method condition (query_of target) body ≡ Ok call

made_key : (segment : Option (List ℕ)) (method : Method) (target body : List ℕ) (fields : List Header) (call : Call) → asked_key segment method target fields body ≡ Ok (Asks.Call call) → Made method target body fields call
made_key None method target body fields call is = cc
made_key (Some segment) method target body fields call is =
    let condition = bound (condition_of fields) _ (Asks.Call call) is in
    let made = bound (call_of segment method condition.0 (query_of target) body) _ (Asks.Call call) condition.2 in
    let same : made.0 ≡ call = let e = made.2 in cc in
    record { segment = segment; condition = condition.0; stated = condition.1; made = made.1 ∙ ap Ok same }

made_at : (page : Option Page) (method : Method) (target body : List ℕ) (fields : List Header) (call : Call) → asked_at page method target fields body ≡ Ok (Asks.Call call) → Made method target body fields call
made_at (Some page) method target body fields call is =
    let found = bound (asked_page page method (is_some (query_of target))) _ (Asks.Call call) is in
    let e = found.2 in cc
made_at None method target body fields call is = made_key (key_segment (path_of target)) method target body fields call is

made_of : (method : Method) (target body : List ℕ) (fields : List Header) (call : Call) → asked_by method target fields body ≡ Ok (Asks.Call call) → Made method target body fields call
made_of method target body fields call is = made_at (page_of (path_of target)) method target body fields call is

undated : (b : Bool) (c : Result Condition Problem) (x : Condition) → unless_dated b c ≡ Ok x → c ≡ Ok x
undated true c x is = cc
undated false c x is = is

matched : (o : Option Version) (x : Condition) → match_stamp o ≡ Ok x → (v : Version) × (o ≡ Some v) × (x ≡ IfMatch v)
matched None x is = cc
matched (Some v) x is = (v, refl, sym (same_ok (IfMatch v) x is))

chose : (tag : List ℕ) (none : Option (List ℕ)) (x : Condition) → chosen (Some tag) none ≡ Ok x → (v : Version) × (stamp_of tag ≡ Some v) × (x ≡ IfMatch v)
chose tag None x is = matched (stamp_of tag) x is
chose tag (Some other) x is = cc

-- with `If-Match` the condition is its stamp
stated_match : (fields : List Header) (tag : List ℕ) (x : Condition) → condition_of fields ≡ Ok x → field_of (codes "if-match") fields ≡ Ok (Some tag) → (v : Version) × (stamp_of tag ≡ Some v) × (x ≡ IfMatch v)
stated_match fields tag x is found =
    let dated = bound (has_date fields) _ x is in
    let inner = undated dated.0 _ x dated.2 in
    let one = bound (field_of (codes "if-match") fields) _ x inner in
    let none = bound (field_of (codes "if-none-match") fields) _ x one.2 in
    let same : one.0 ≡ Some tag = same_ok one.0 (Some tag) (sym one.1 ∙ found) in
    chose tag none.0 x (ap (λ o. chosen o none.0) (sym same) ∙ none.2)

value_is : (b : Bool) (bytes x : List ℕ) (p : Problem) → cond b (Ok bytes) (Err p) ≡ Ok x → x ≡ bytes
value_is true bytes x p e = sym (same_ok bytes x e)
value_is false bytes x p e = cc

put_updates : (v : Version) (query : Option (List ℕ)) (body : List ℕ) (command : Command) → put_of (IfMatch v) query body ≡ Ok command → command ≡ Update v body
put_updates v (Some query) body command is = cc
put_updates v None body command is =
    let value = bound (value_of body) _ command is in
    let is_body = value_is (nat_le (length body) 1024) body value.0 TooLong value.1 in
    sym (same_ok (Update v value.0) command value.2) ∙ ap (Update v) is_body

no_command : (b : Bool) (p q : Problem) (command : Command) → ¬ (cond b (Err p) (Err q) ≡ Ok command)
no_command true p q command is = cc
no_command false p q command is = cc

no_delete : (v : Version) (query : Option (List ℕ)) (body : List ℕ) (command : Command) → ¬ (delete_of (IfMatch v) query body ≡ Ok command)
no_delete v (Some query) body command is = cc
no_delete v None body command is = no_command (length body == 0) UnknownCondition BadBody command is

updates_by : (method : Method) (v : Version) (query : Option (List ℕ)) (body : List ℕ) (command : Command) → command_of method (IfMatch v) query body ≡ Ok command → command ≡ Update v body
updates_by Get v query body command is = cc
updates_by Head v query body command is = cc
updates_by Put v query body command is = put_updates v query body command is
updates_by Delete v query body command is = absurd (no_delete v query body command is)
updates_by Post v query body command is = cc
updates_by Other v query body command is = cc

-- a read of a value states no `If-Match`
no_get : (b : Bool) (method : Method) (v : Version) (query : Option (List ℕ)) (asks : Option Version × Option ℕ) → ¬ (cond b (Err BadBody) (known_of (IfMatch v) >>= (λ known. wait_of method known query >>= (λ wait. Ok (known, wait)))) ≡ Ok asks)
no_get true method v query asks is = cc
no_get false method v query asks is = cc

abbrev written : List ℕ → Method → Condition → Option (List ℕ) → List ℕ → Result Call Problem
written segment method condition query body = key_of segment >>= (λ key. command_of method condition query body >>= (λ command. Ok (record { key = key; command = command; known = None; wait = None })))

abbrev got : List ℕ → Method → Condition → Option (List ℕ) → List ℕ → Result Call Problem
got segment method condition query body = get_of method condition query body >>= (λ asks. key_of segment >>= (λ key. Ok (record { key = key; command = GetValue; known = asks.0; wait = asks.1 })))

updates : (b : Bool) (segment : List ℕ) (method : Method) (v : Version) (query : Option (List ℕ)) (body : List ℕ) (call : Call) → cond b (written segment method (IfMatch v) query body) (got segment method (IfMatch v) query body) ≡ Ok call → call.command ≡ Update v body
updates true segment method v query body call is =
    let key = bound (key_of segment) _ call is in
    let command = bound (command_of method (IfMatch v) query body) _ call key.2 in
    ap (λ (c : Call). c.command) (sym (same_ok _ call command.2)) ∙ updates_by method v query body command.0 command.1
updates false segment method v query body call is =
    let asks = bound (get_of method (IfMatch v) query body) _ call is in
    absurd (no_get (not (length body == 0)) method v query asks.0 asks.1)

pub update_kept : (method : Method) (target body tag : List ℕ) (fields : List Header) (call : Call) → asked_by method target fields body ≡ Ok (Asks.Call call) → field_of (codes "if-match") fields ≡ Ok (Some tag) → (v : Version) × (tag ≡ tag_text v) × (call.command ≡ Update v body)
update_kept method target body tag fields call is found =
    let made = made_of method target body fields call is in
    let stated = stated_match fields tag made.condition made.stated found in (
      stated.0,
      tag_read tag stated.0 stated.1,
      updates (is_write method) made.segment method stated.0 (query_of target) body call (ap (λ x. call_of made.segment method x (query_of target) body) (sym stated.2) ∙ made.made),
    )

reads_by : (b : Bool) (segment : List ℕ) (method : Method) (condition : Condition) (query : Option (List ℕ)) (body : List ℕ) (call : Call) → b ≡ false → cond b (written segment method condition query body) (got segment method condition query body) ≡ Ok call → call.command ≡ GetValue
reads_by true segment method condition query body call read is = cc
reads_by false segment method condition query body call read is =
    let asks = bound (get_of method condition query body) _ call is in
    let key = bound (key_of segment) _ call asks.2 in
    ap (λ (c : Call). c.command) (sym (same_ok _ call key.2))

pub reads_kept : (method : Method) (target body : List ℕ) (fields : List Header) (call : Call) → asked_by method target fields body ≡ Ok (Asks.Call call) → IsFalse (is_write method) → call.command ≡ GetValue
reads_kept method target body fields call is read =
    let made = made_of method target body fields call is in
    reads_by (is_write method) made.segment method made.condition (query_of target) body call read made.made
