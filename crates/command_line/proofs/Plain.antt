-- No word of a form begins with `-`.
use Rattle.std.proofs.Common.{◌≡◌, ◌∙◌, ◌+◌, ◌<◌, ◌≤◌, ◌^◌, ◌||◌, ◌==◌, ℕ, Bool, true, false, true≢false, sym, ap, refl, List, [], ◌∷◌, arith, lit<}
use Rattle.std.specs.Fmt.{decimal}
use Rattle.lexemes.proofs.Joined.{has, has-decimal}
use Rattle.lexemes.specs.Spelling.{AscendFrom, member_words}
use Rattle.command_line.specs.Forms.{AskFor, IsJob, output_word, words_of}
use Rattle.command_line.specs.Split.{has_option, is_option}
use Rattle.command_line.specs.declared.job.Job.{Job}
use Rattle.command_line.specs.declared.job.Job.TheVariants.{Replay, Peer, Cluster, Audit, Backup, Check, Restore, Root, Generate}

first_false : (a b : Bool) → (a || b) ≡ false → a ≡ false
first_false true b h = cc h
first_false false b h = refl

plain_text : (text : List ℕ) → has 45 text ≡ false → is_option text ≡ false
plain_text [] h = refl
plain_text (b ∷ bs) h = first_false (b == 45) (has 45 bs) h

plain_decimal : (n : ℕ) → n < 2 ^ 64 → is_option (decimal n) ≡ false
plain_decimal n fits = plain_text (decimal n) (has-decimal 45 n (lit< tt) fits)

plain_members : (low peers : ℕ) (members : List ℕ) → peers ≤ 31 → AscendFrom low peers members → has_option (member_words members) ≡ false
plain_members low peers [] most are = refl
plain_members low peers (m ∷ ms) most are =
    rw (plain_decimal m (omega (arith, are.1, most))) (plain_members (m + 1) peers ms most are.2)

plain_output : (summary : Bool) → is_option (output_word summary) ≡ false
plain_output true = refl
plain_output false = refl

plain_words : (job : Job) → IsJob job → has_option (words_of job) ≡ false
plain_words Replay is = refl
plain_words Audit is = refl
plain_words Backup is = refl
plain_words Check is = refl
plain_words Restore is = refl
plain_words Root is = refl
plain_words (Peer w) is =
    rw (
      plain_decimal w.me (omega (arith, is.1.last, is.0.count)),
      plain_decimal w.peers (omega (arith, is.0.count)),
      plain_decimal w.port (omega (arith, is.0.base)),
      plain_decimal w.turns (omega (arith, is.3)),
    ) (plain_members 1 w.peers w.view is.0.count.1 is.0.members.0)
plain_words (Cluster w) is =
    rw (plain_decimal w.peers (omega (arith, is.count)), plain_decimal w.port (omega (arith, is.base))) (plain_members 1 w.peers w.view is.count.1 is.members.0)
plain_words (Generate number calls summary) is =
    rw (plain_decimal number is.0, plain_decimal calls (omega (arith, is.2)), plain_output summary) refl

-- words of which one begins with `-` ask for no job
pub option_refused : (words : List (List ℕ)) → has_option words ≡ true → (job : Job) → ¬ AskFor words job
option_refused words h job asks = true≢false (sym h ∙ ap has_option asks.1 ∙ plain_words job asks.0)
