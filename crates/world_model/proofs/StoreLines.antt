-- The lines that change the stores of a peer, and the others.
use Rattle.std.proofs.Common.{◌≡◌, ℕ, List, Option, refl}
use Rattle.ens_base.specs.declared.command.Command.{Command}
use Rattle.schedule_text.specs.declared.event.ScheduleEvent.{ScheduleEvent}
use Rattle.schedule_text.specs.declared.event.ScheduleEvent.TheVariants.{Call, Tick, Deliver, Pass, Lose, Calm, CalmAmong, Change, Stop, Start, Upgrade, Deepen, Spoil, Damage, Inner, Revert, Fail}
use Rattle.schedule_text.specs.declared.keyword.StoreName.{StoreName}
use Rattle.schedule_text.specs.declared.keyword.Survivor.{Survivor}
use Rattle.world_spec.specs.Lines.{effect, stores_effect}
use Rattle.world_spec.proofs.Growth.{changed_hashed, changed_mail}
use Rattle.world_spec.specs.Nodes.{over_stores, while_down}
use Rattle.world_spec.specs.Runs.{Run}
use Rattle.world_spec.specs.Stores.{failing, leaves_of, spoiled, inner_spoiled, taken_back}

-- a line that is none of these has its effect on stores alone
pub stores_line : (event : ScheduleEvent) (w : Run)
    → ((peer id : ℕ) (key : List ℕ) (command : Command) → event ≡ Call peer id key command → ⊥)
    → ((peer ticks : ℕ) → event ≡ Tick peer ticks → ⊥)
    → ((message : ℕ) → event ≡ Deliver message → ⊥)
    → ((sender receiver : ℕ) → event ≡ Pass sender receiver → ⊥)
    → ((sender receiver : ℕ) → event ≡ Lose sender receiver → ⊥)
    → (event ≡ Calm → ⊥)
    → ((members : List ℕ) → event ≡ CalmAmong members → ⊥)
    → ((peer : ℕ) (view : List ℕ) → event ≡ Change peer view → ⊥)
    → ((peer : ℕ) → event ≡ Stop peer → ⊥)
    → ((peer : ℕ) → event ≡ Start peer → ⊥)
    → ((peer : ℕ) → event ≡ Upgrade peer → ⊥)
    → (event ≡ Deepen → ⊥)
    → ((peer : ℕ) (key : List ℕ) (bytes : Option (List ℕ)) → event ≡ Damage peer key bytes → ⊥)
    → effect event w ≡ stores_effect event w
stores_line (Call peer id key command) w call tick deliver pass lose calm among change stop start upgrade deepen damage = absurd (call peer id key command refl)
stores_line (Tick peer ticks) w call tick deliver pass lose calm among change stop start upgrade deepen damage = absurd (tick peer ticks refl)
stores_line (Deliver message) w call tick deliver pass lose calm among change stop start upgrade deepen damage = absurd (deliver message refl)
stores_line (Pass sender receiver) w call tick deliver pass lose calm among change stop start upgrade deepen damage = absurd (pass sender receiver refl)
stores_line (Lose sender receiver) w call tick deliver pass lose calm among change stop start upgrade deepen damage = absurd (lose sender receiver refl)
stores_line Calm w call tick deliver pass lose calm among change stop start upgrade deepen damage = absurd (calm refl)
stores_line (CalmAmong members) w call tick deliver pass lose calm among change stop start upgrade deepen damage = absurd (among members refl)
stores_line (Change peer view) w call tick deliver pass lose calm among change stop start upgrade deepen damage = absurd (change peer view refl)
stores_line (Stop peer) w call tick deliver pass lose calm among change stop start upgrade deepen damage = absurd (stop peer refl)
stores_line (Start peer) w call tick deliver pass lose calm among change stop start upgrade deepen damage = absurd (start peer refl)
stores_line (Upgrade peer) w call tick deliver pass lose calm among change stop start upgrade deepen damage = absurd (upgrade peer refl)
stores_line Deepen w call tick deliver pass lose calm among change stop start upgrade deepen damage = absurd (deepen refl)
stores_line (Damage peer key bytes) w call tick deliver pass lose calm among change stop start upgrade deepen damage = absurd (damage peer key bytes refl)
stores_line other w call tick deliver pass lose calm among change stop start upgrade deepen damage = refl

-- the lines on stores hash no string
pub stores_hashed : (event : ScheduleEvent) (w : Run) → (stores_effect event w).hashed ≡ w.hashed
stores_hashed (Spoil peer key bytes) w = changed_hashed peer (over_stores (spoiled key bytes)) w
stores_hashed (Inner peer level index bytes) w = changed_hashed peer (over_stores (inner_spoiled level index bytes)) w
stores_hashed (Revert peer changes) w = changed_hashed peer (while_down (taken_back changes)) w
stores_hashed (Fail peer store survivor) w = changed_hashed peer (over_stores (failing store (leaves_of survivor))) w
stores_hashed other w = refl

-- they send no message
pub stores_mail : (event : ScheduleEvent) (w : Run) → (stores_effect event w).mail ≡ w.mail
stores_mail (Spoil peer key bytes) w = changed_mail peer (over_stores (spoiled key bytes)) w
stores_mail (Inner peer level index bytes) w = changed_mail peer (over_stores (inner_spoiled level index bytes)) w
stores_mail (Revert peer changes) w = changed_mail peer (while_down (taken_back changes)) w
stores_mail (Fail peer store survivor) w = changed_mail peer (over_stores (failing store (leaves_of survivor))) w
stores_mail other w = refl

-- a line that is none of these leaves all stores alone
pub other_line : (event : ScheduleEvent) (w : Run)
    → ((peer : ℕ) (key : List ℕ) (bytes : Option (List ℕ)) → event ≡ Spoil peer key bytes → ⊥)
    → ((peer level index : ℕ) (bytes : Option (List ℕ)) → event ≡ Inner peer level index bytes → ⊥)
    → ((peer changes : ℕ) → event ≡ Revert peer changes → ⊥)
    → ((peer : ℕ) (store : StoreName) (survivor : Survivor) → event ≡ Fail peer store survivor → ⊥)
    → stores_effect event w ≡ w
other_line (Spoil peer key bytes) w spoil inner revert fail = absurd (spoil peer key bytes refl)
other_line (Inner peer level index bytes) w spoil inner revert fail = absurd (inner peer level index bytes refl)
other_line (Revert peer changes) w spoil inner revert fail = absurd (revert peer changes refl)
other_line (Fail peer store survivor) w spoil inner revert fail = absurd (fail peer store survivor refl)
other_line other w spoil inner revert fail = refl
