-- The fixed words of the language.
use Rattle.std.specs.Prelude.{ℕ, List, [], ◌∷◌, codes, find, Option}
use Rattle.ens_base.specs.Lists.{same_bytes}
use Rattle.schedule_text.specs.declared.keyword.Keyword.{Keyword}
use Rattle.schedule_text.specs.declared.keyword.Keyword.TheVariants.{Call, Tick, Deliver, Pass, Lose, Calm, Change, Stop, Start, Upgrade, Deepen, Spoil, Damage, Inner, Revert, Fail}
use Rattle.schedule_text.specs.declared.keyword.CommandName.{CommandName}
use Rattle.schedule_text.specs.declared.keyword.CommandName.TheVariants.{Get, Once, Update, Append, Add, Swap, Over, Delete}
use Rattle.schedule_text.specs.declared.keyword.StoreName.{StoreName}
use Rattle.schedule_text.specs.declared.keyword.StoreName.TheVariants.{Fact, Tree, Backend}
use Rattle.schedule_text.specs.declared.keyword.Survivor.{Survivor}
use Rattle.schedule_text.specs.declared.keyword.Survivor.TheVariants.{Old, New}

-- the first word of each line
abbrev pub keyword_word : Keyword → List ℕ
keyword_word Call = codes "call"
keyword_word Tick = codes "tick"
keyword_word Deliver = codes "deliver"
keyword_word Pass = codes "pass"
keyword_word Lose = codes "lose"
keyword_word Calm = codes "calm"
keyword_word Change = codes "change"
keyword_word Stop = codes "stop"
keyword_word Start = codes "start"
keyword_word Upgrade = codes "upgrade"
keyword_word Deepen = codes "deepen"
keyword_word Spoil = codes "spoil"
keyword_word Damage = codes "damage"
keyword_word Inner = codes "inner"
keyword_word Revert = codes "revert"
keyword_word Fail = codes "fail"

-- every keyword
abbrev pub keywords : List Keyword
keywords = Call ∷ Tick ∷ Deliver ∷ Pass ∷ Lose ∷ Calm ∷ Change ∷ Stop ∷ Start ∷ Upgrade ∷ Deepen ∷ Spoil ∷ Damage ∷ Inner ∷ Revert ∷ Fail ∷ []

-- the keyword that a word is, if it is one
abbrev pub keyword_of : List ℕ → Option Keyword
keyword_of word = find (λ k. same_bytes (keyword_word k) word) keywords

-- the word of each command
abbrev pub command_word : CommandName → List ℕ
command_word Get = codes "get"
command_word Once = codes "once"
command_word Update = codes "update"
command_word Append = codes "append"
command_word Add = codes "add"
command_word Swap = codes "swap"
command_word Over = codes "over"
command_word Delete = codes "delete"

-- every command
abbrev pub commands : List CommandName
commands = Get ∷ Once ∷ Update ∷ Append ∷ Add ∷ Swap ∷ Over ∷ Delete ∷ []

-- the command that a word is, if it is one
abbrev pub command_of : List ℕ → Option CommandName
command_of word = find (λ c. same_bytes (command_word c) word) commands

-- how many words follow the key of a call
abbrev pub operand_count : CommandName → ℕ
operand_count Get = 0
operand_count Once = 1
operand_count Update = 2
operand_count Append = 1
operand_count Add = 1
operand_count Swap = 2
operand_count Over = 1
operand_count Delete = 0

-- the word of each store
abbrev pub store_word : StoreName → List ℕ
store_word Fact = codes "fact"
store_word Tree = codes "tree"
store_word Backend = codes "backend"

-- every store
abbrev pub stores : List StoreName
stores = Fact ∷ Tree ∷ Backend ∷ []

-- the store that a word is, if it is one
abbrev pub store_of : List ℕ → Option StoreName
store_of word = find (λ s. same_bytes (store_word s) word) stores

-- the word of what a failed write leaves
abbrev pub survivor_word : Survivor → List ℕ
survivor_word Old = codes "old"
survivor_word New = codes "new"

-- both that a failed write may leave
abbrev pub survivors : List Survivor
survivors = Old ∷ New ∷ []

-- what a word says that a failed write leaves, if it says so
abbrev pub survivor_of : List ℕ → Option Survivor
survivor_of word = find (λ s. same_bytes (survivor_word s) word) survivors
