-- The words that are read as a job are those that ask for it.
use Rattle.std.proofs.Common.{◌≡◌, ℕ, ◌-◌, ◌^◌, Bool, true, false, if◌then◌else◌, List, [], ◌∷◌, codes, Result, Ok, Err, refl, sym, ap, subst, ◌∙◌, arith, lit<}
use Rattle.ens_base.proofs.Lists.{bytes_same}
use Rattle.std.specs.Fmt.{decimal}
use Rattle.ens_base.specs.Lists.{same_bytes}
use Rattle.ens_base.specs.Results.{◌>>=◌}
use Rattle.lexemes.proofs.Ascending.{view_of-ok, view_of-words}
use Rattle.lexemes.proofs.Dotted.{number_of-ok, number_of-decimal}
use Rattle.lexemes.proofs.Fields.{peer_of-ok, peer_of-decimal}
use Rattle.lexemes.proofs.Results.{bind_ok, ok_same}
use Rattle.lexemes.specs.Spelling.{member_words}
use Rattle.lexemes.specs.Words.{number_of, peer_of, view_of}
use Rattle.lexemes.specs.declared.cause.Cause.{Cause}
use Rattle.lexemes.specs.declared.cause.Cause.TheVariants.{Unknown}
use Rattle.command_line.specs.Forms.{AskFor, IsJob, output_word, words_of}
use Rattle.command_line.specs.Reading.{alone_of, cluster_form_of, cluster_of, generate_of, generator_of, job_of, peer_form_of, peer_of_words, summary_of}
use Rattle.command_line.specs.declared.job.Job.{Job}
use Rattle.command_line.specs.declared.job.Job.TheVariants.{Replay, Peer, Cluster, Audit, Backup, Check, Restore, Root, Generate}
use Rattle.ens_base.specs.declared.peer_words.PeerWords.{PeerWords}
use Rattle.ens_base.specs.declared.peer_words.ClusterWords.{ClusterWords}

-- ---- what is read as a job asks for it

asks_same : (words : List (List ℕ)) (one other : Job) → one ≡ other → AskFor words one → AskFor words other
asks_same words one other same asks = subst (AskFor words) same asks

alone_read : (verb word : List ℕ) (rest : List (List ℕ)) (one job : Job) → verb ≡ word → IsJob one → words_of one ≡ word ∷ [] → alone_of one rest ≡ Ok job → AskFor (verb ∷ rest) job
alone_read verb word [] one job is fits form h = asks_same (verb ∷ []) one job (ok_same h) (fits, ap (λ (w : List ℕ). w ∷ []) is ∙ sym form)
alone_read verb word (w ∷ ws) one job is fits form h = cc h

peer_same : (a b c d e f g i j k : List ℕ) (xs ys : List (List ℕ)) → a ≡ f → b ≡ g → c ≡ i → d ≡ j → e ≡ k → xs ≡ ys → a ∷ b ∷ c ∷ d ∷ e ∷ xs ≡ f ∷ g ∷ i ∷ j ∷ k ∷ ys
peer_same a b c d e f g i j k xs ys p q r s t u = λ n. p n ∷ q n ∷ r n ∷ s n ∷ t n ∷ u n

peer_form_read : (verb i n p t : List ℕ) (ms : List (List ℕ)) (job : Job) → verb ≡ codes "peer" → peer_form_of i n p t ms ≡ Ok job → AskFor (verb ∷ i ∷ n ∷ p ∷ t ∷ ms) job
unfolding peer_form_of
peer_form_read verb i n p t ms job is h =
    let a = bind_ok (number_of 1 31 n) _ job h in
    let b = bind_ok (peer_of a.0 i) _ job a.2 in
    let c = bind_ok (number_of 1 65000 p) _ job b.2 in
    let d = bind_ok (number_of 1 1000000000 t) _ job c.2 in
    let e = bind_ok (view_of a.0 ms) _ job d.2 in
    let peers = number_of-ok 1 31 n a.0 (lit< tt) a.1 in
    let me = peer_of-ok a.0 i b.0 peers.2 b.1 in
    let port = number_of-ok 1 65000 p c.0 (lit< tt) c.1 in
    let turns = number_of-ok 1 1000000000 t d.0 (lit< tt) d.1 in
    let view = view_of-ok a.0 ms e.0 peers.2 e.1 in
    let read : PeerWords = record { me = b.0; peers = a.0; port = c.0; turns = d.0; view = e.0 } in
    asks_same (verb ∷ i ∷ n ∷ p ∷ t ∷ ms) (Peer read) job (ok_same e.2) (
      (record { count = (peers.1, peers.2); base = (port.1, port.2); members = (view.0, view.1) }, me.1, turns.1, turns.2),
      peer_same verb i n p t (codes "peer") (decimal b.0) (decimal a.0) (decimal c.0) (decimal d.0) ms (member_words e.0) is me.0 peers.0 port.0 turns.0 view.2,
    )

peer_read : (verb : List ℕ) (rest : List (List ℕ)) (job : Job) → verb ≡ codes "peer" → peer_of_words rest ≡ Ok job → AskFor (verb ∷ rest) job
peer_read verb (i ∷ n ∷ p ∷ t ∷ ms) job is h = peer_form_read verb i n p t ms job is h
peer_read verb [] job is h = cc h
peer_read verb (a ∷ []) job is h = cc h
peer_read verb (a ∷ b ∷ []) job is h = cc h
peer_read verb (a ∷ b ∷ c ∷ []) job is h = cc h

cluster_same : (a b c f g i : List ℕ) (xs ys : List (List ℕ)) → a ≡ f → b ≡ g → c ≡ i → xs ≡ ys → a ∷ b ∷ c ∷ xs ≡ f ∷ g ∷ i ∷ ys
cluster_same a b c f g i xs ys p q r u = λ n. p n ∷ q n ∷ r n ∷ u n

cluster_form_read : (verb n p : List ℕ) (ms : List (List ℕ)) (job : Job) → verb ≡ codes "cluster" → cluster_form_of n p ms ≡ Ok job → AskFor (verb ∷ n ∷ p ∷ ms) job
cluster_form_read verb n p ms job is h =
    let a = bind_ok (number_of 1 31 n) _ job h in
    let b = bind_ok (number_of 1 65000 p) _ job a.2 in
    let c = bind_ok (view_of a.0 ms) _ job b.2 in
    let peers = number_of-ok 1 31 n a.0 (lit< tt) a.1 in
    let port = number_of-ok 1 65000 p b.0 (lit< tt) b.1 in
    let view = view_of-ok a.0 ms c.0 peers.2 c.1 in
    let read : ClusterWords = record { peers = a.0; port = b.0; view = c.0 } in
    asks_same (verb ∷ n ∷ p ∷ ms) (Cluster read) job (ok_same c.2) (
      record { count = (peers.1, peers.2); base = (port.1, port.2); members = (view.0, view.1) },
      cluster_same verb n p (codes "cluster") (decimal a.0) (decimal b.0) ms (member_words c.0) is peers.0 port.0 view.2,
    )

cluster_read : (verb : List ℕ) (rest : List (List ℕ)) (job : Job) → verb ≡ codes "cluster" → cluster_of rest ≡ Ok job → AskFor (verb ∷ rest) job
cluster_read verb (n ∷ p ∷ ms) job is h = cluster_form_read verb n p ms job is h
cluster_read verb [] job is h = cc h
cluster_read verb (a ∷ []) job is h = cc h

summary_read : (word : List ℕ) (summary : Bool) → summary_of word ≡ Ok summary → word ≡ output_word summary
summary_read word summary h = one (same_bytes word (codes "schedule")) refl h where
  two : (b : Bool) → same_bytes word (codes "summary") ≡ b → (if b then Ok true else Err Unknown) ≡ Ok summary → word ≡ output_word summary
  two true same h = let is : true ≡ summary = ok_same h in bytes_same word (codes "summary") same ∙ ap output_word is
  two false same h = cc h

  one : (b : Bool) → same_bytes word (codes "schedule") ≡ b → (if b then Ok false else (if same_bytes word (codes "summary") then Ok true else Err Unknown)) ≡ Ok summary → word ≡ output_word summary
  one true same h = let is : false ≡ summary = ok_same h in bytes_same word (codes "schedule") same ∙ ap output_word is
  one false same h = two (same_bytes word (codes "summary")) refl h

four_same : (a b c d e f g i : List ℕ) → a ≡ e → b ≡ f → c ≡ g → d ≡ i → a ∷ b ∷ c ∷ d ∷ [] ≡ e ∷ f ∷ g ∷ i ∷ []
four_same a b c d e f g i p q r s = λ k. p k ∷ q k ∷ r k ∷ s k ∷ []

generator_read : (verb n c o : List ℕ) (job : Job) → verb ≡ codes "generate" → generator_of n c o ≡ Ok job → AskFor (verb ∷ n ∷ c ∷ o ∷ []) job
generator_read verb n c o job is h =
    let a = bind_ok (number_of 0 (2 ^ 64 - 1) n) (λ number. number_of 1 20000 c >>= λ calls. summary_of o >>= λ summary. Ok (Generate number calls summary)) job h in
    let b = bind_ok (number_of 1 20000 c) (λ calls. summary_of o >>= λ summary. Ok (Generate a.0 calls summary)) job a.2 in
    let d = bind_ok (summary_of o) (λ summary. Ok (Generate a.0 b.0 summary)) job b.2 in
    let number = number_of-ok 0 (2 ^ 64 - 1) n a.0 (lit< tt) a.1 in
    let calls = number_of-ok 1 20000 c b.0 (lit< tt) b.1 in
    asks_same (verb ∷ n ∷ c ∷ o ∷ []) (Generate a.0 b.0 d.0) job (ok_same d.2)
    ((omega (arith, number.2), calls.1, calls.2), four_same verb n c o (codes "generate") (decimal a.0) (decimal b.0) (output_word d.0) is number.0 calls.0 (summary_read o d.0 d.1))

generate_read : (verb : List ℕ) (rest : List (List ℕ)) (job : Job) → verb ≡ codes "generate" → generate_of rest ≡ Ok job → AskFor (verb ∷ rest) job
generate_read verb (n ∷ c ∷ o ∷ []) job is h = generator_read verb n c o job is h
generate_read verb [] job is h = cc h
generate_read verb (a ∷ []) job is h = cc h
generate_read verb (a ∷ b ∷ []) job is h = cc h
generate_read verb (a ∷ b ∷ c ∷ d ∷ more) job is h = cc h

-- a verb is this word, and then the job is that of its form, or it is another
by_word : (verb word : List ℕ) (form others : Result Job Cause) (job : Job) (P : Type 0) → (if same_bytes verb word then form else others) ≡ Ok job → (verb ≡ word → form ≡ Ok job → P) → (others ≡ Ok job → P) → P
by_word verb word form others job P h here later = by (same_bytes verb word) refl h
  where
    by : (b : Bool) → same_bytes verb word ≡ b → (if b then form else others) ≡ Ok job → P
    by true is h = here (bytes_same verb word is) h
    by false is h = later h

verb_read : (verb : List ℕ) (rest : List (List ℕ)) (job : Job) → job_of (verb ∷ rest) ≡ Ok job → AskFor (verb ∷ rest) job
verb_read verb rest job h =
    by_word verb (codes "replay") (alone_of Replay rest) _ job (AskFor (verb ∷ rest) job) h (λ is r. alone_read verb (codes "replay") rest Replay job is tt refl r)
    (λ h2. by_word verb (codes "peer") (peer_of_words rest) _ job (AskFor (verb ∷ rest) job) h2 (λ is r. peer_read verb rest job is r)
    (λ h3. by_word verb (codes "cluster") (cluster_of rest) _ job (AskFor (verb ∷ rest) job) h3 (λ is r. cluster_read verb rest job is r)
    (λ h4. by_word verb (codes "audit") (alone_of Audit rest) _ job (AskFor (verb ∷ rest) job) h4 (λ is r. alone_read verb (codes "audit") rest Audit job is tt refl r)
    (λ h5. by_word verb (codes "generate") (generate_of rest) _ job (AskFor (verb ∷ rest) job) h5 (λ is r. generate_read verb rest job is r)
    (λ h6. by_word verb (codes "backup") (alone_of Backup rest) _ job (AskFor (verb ∷ rest) job) h6 (λ is r. alone_read verb (codes "backup") rest Backup job is tt refl r)
    (λ h7. by_word verb (codes "check") (alone_of Check rest) _ job (AskFor (verb ∷ rest) job) h7 (λ is r. alone_read verb (codes "check") rest Check job is tt refl r)
    (λ h8. by_word verb (codes "restore") (alone_of Restore rest) _ job (AskFor (verb ∷ rest) job) h8 (λ is r. alone_read verb (codes "restore") rest Restore job is tt refl r)
    (λ h9. by_word verb (codes "root") (alone_of Root rest) _ job (AskFor (verb ∷ rest) job) h9 (λ is r. alone_read verb (codes "root") rest Root job is tt refl r)
    (λ none. cc none)))))))))

pub job_read : (words : List (List ℕ)) (job : Job) → job_of words ≡ Ok job → AskFor words job
job_read [] job h = cc h
job_read (verb ∷ rest) job h = verb_read verb rest job h

-- ---- what asks for a job is read as it

output_back : (summary : Bool) → summary_of (output_word summary) ≡ Ok summary
output_back true = refl
output_back false = refl

peer_back : (w : PeerWords) → IsJob (Peer w) → peer_form_of (decimal w.me) (decimal w.peers) (decimal w.port) (decimal w.turns) (member_words w.view) ≡ Ok (Peer w)
unfolding peer_form_of
peer_back w is =
    rw (
      number_of-decimal 1 31 w.peers is.0.count.0 is.0.count.1 (omega (arith, is.0.count)),
      peer_of-decimal w.peers w.me is.0.count.1 is.1,
      number_of-decimal 1 65000 w.port is.0.base.0 is.0.base.1 (omega (arith, is.0.base)),
      number_of-decimal 1 1000000000 w.turns is.2 is.3 (omega (arith, is.3)),
      view_of-words w.peers w.view is.0.count.1 is.0.members.0 is.0.members.1,
    ) refl

pub job_back : (job : Job) → IsJob job → job_of (words_of job) ≡ Ok job
job_back Replay is = refl
job_back Audit is = refl
job_back Backup is = refl
job_back Check is = refl
job_back Restore is = refl
job_back Root is = refl
job_back (Peer w) is = peer_back w is
job_back (Cluster w) is =
    rw (
      number_of-decimal 1 31 w.peers is.count.0 is.count.1 (omega (arith, is.count)),
      number_of-decimal 1 65000 w.port is.base.0 is.base.1 (omega (arith, is.base)),
      view_of-words w.peers w.view is.count.1 is.members.0 is.members.1,
    ) refl
job_back (Generate number calls summary) is =
    rw (number_of-decimal 0 (2 ^ 64 - 1) number (omega arith) (omega (arith, is.0)) is.0, number_of-decimal 1 20000 calls is.1 is.2 (omega (arith, is.2)), output_back summary) refl

not_both : (job : Job) (cause : Cause) → ◌≡◌ {A = Result Job Cause} (Ok job) (Err cause) → ⊥
not_both job cause h = cc h

pub job_refused : (words : List (List ℕ)) (cause : Cause) → job_of words ≡ Err cause → (job : Job) → ¬ AskFor words job
job_refused words cause h job asks = not_both job cause (sym (job_back job asks.0) ∙ ap job_of (sym asks.1) ∙ h)
