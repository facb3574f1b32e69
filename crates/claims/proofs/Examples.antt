-- E1 to E12 of document 01, one statement over one list, of whatever the contracts allow: any answer, and any content of what is lent,
-- that the contract of the function allows on the example's input is the example's. By the same list, of the definitions.
-- Assumes nothing.
use Prim.Native.Nat.{ℕ, ◌+◌, ◌-◌, ◌^◌, ◌<◌}
use mathlib.Core.Path.{◌≡◌, ◌∙◌, refl}
use mathlib.Core.List.{List, [], ◌∷◌}
use contract.Lifetimes.{Lfts}
use borrow.Fn.Kinds.{Dens, ended_of}
use denote.Triple.Clauses.{Lasts, at_exit}
use Rattle.rows.specs.Rows.{count}
use Rattle.rows.specs.Word.{bits_of}
use Rattle.rows.specs.Table.{refusal, numbered}
use Rattle.rows.specs.WordAnswer.{deposited, selected, rank_read}
use Rattle.rules.specs.Answer.{Answer}
use Rattle.rules.specs.Answer.{summary}
use Rattle.rules.specs.Operand.{Operand, lent}
use Rattle.rules.specs.Route.{published}
use Rattle.rules.specs.Compose.{composed, composed_out}
use Rattle.rules.specs.Stream.{state_of, fresh, Run}
use Rattle.rules.proofs.WordExamples as word-examples
use Rattle.rules.proofs.ReadExamples as read-examples
use Rattle.rules.proofs.Examples.{quarter, Case, gives, before, Holds, Fed, feeds, keeps_one, Example, word, read, composition, stream, True, AllTrue, document, examples}
use Rattle.word.proofs.deposit.Kinds as deposit-kinds
use Rattle.word.proofs.deposit.Reads as deposit
use Rattle.word.proofs.select.Kinds as select-kinds
use Rattle.word.proofs.select.Reads as select
use Rattle.lent.proofs.rank_read.Kinds as read-kinds
use Rattle.lent.proofs.rank_read.Reads as reads
use Rattle.intersect_by_rank.proofs.intersect_by_rank.Kinds as compose-kinds
use Rattle.intersect_by_rank.proofs.intersect_by_rank.Reads as compose-reads
use Rattle.claims.proofs.Streams.{Calls, calls_run}
use Rattle.rows.specs.declared.Reason.TheVariants.{StartOver63, NoSuchRank}
use Rattle.rows.specs.Table.{no_operand}
use Rattle.rows.specs.declared.Refusal.{Refusal}
use Rattle.std.specs.Prelude.{Result, Some, Ok, Err}

-- ---- an answer that a contract allows

-- to a source, a mask and the mask's own count
pub record Deposits (source mask : ℕ) (x : Result ℕ Refusal) : Type 1 where
  pub κs : Lfts 0
  pub args : Dens κs deposit-kinds.ps
  pub lasts : Lasts (ended_of 0 deposit-kinds.ps deposit-kinds.r) κs args
  pub allowed : deposit.Post κs args x (at_exit (ended_of 0 deposit-kinds.ps deposit-kinds.r) κs args lasts)
  pub source_is : args.0 ≡ source
  pub mask_is : args.1.0 ≡ mask
  pub claimed_is : args.1.1.0 ≡ count (bits_of 64 mask)

-- to a word and a rank
pub record Selects (n rank : ℕ) (x : Result ℕ Refusal) : Type 1 where
  pub κs : Lfts 0
  pub args : Dens κs select-kinds.ps
  pub lasts : Lasts (ended_of 0 select-kinds.ps select-kinds.r) κs args
  pub allowed : select.Post κs args x (at_exit (ended_of 0 select-kinds.ps select-kinds.r) κs args lasts)
  pub word_is : args.0 ≡ n
  pub rank_is : args.1.0 ≡ rank

-- to lent words, a start and an offset
pub record Reads (words : List ℕ) (start offset : ℕ) (x : Result ℕ Refusal) : Type 1 where
  pub κs : Lfts 1
  pub args : Dens κs read-kinds.ps
  pub lasts : Lasts (ended_of 1 read-kinds.ps read-kinds.r) κs args
  pub allowed : reads.Post κs args x (at_exit (ended_of 1 read-kinds.ps read-kinds.r) κs args lasts)
  pub words_are : args.0.now ≡ words
  pub start_is : args.1.0 ≡ start
  pub offset_is : args.1.1.0 ≡ offset

-- to self, the rank mask and an output, which it leaves so
pub record Composes (s r : Operand) (out : List ℕ) (x : Answer) (after : List ℕ) : Type 1 where
  pub κs : Lfts 5
  pub args : Dens κs compose-kinds.ps
  pub lasts : Lasts (ended_of 5 compose-kinds.ps compose-kinds.r) κs args
  pub allowed : compose-reads.Post κs args x (at_exit (ended_of 5 compose-kinds.ps compose-kinds.r) κs args lasts)
  pub self_is : lent args.0 args.1.0.now args.1.1.0.now ≡ s
  pub rank_is : lent args.1.1.1.0 args.1.1.1.1.0.now args.1.1.1.1.1.0.now ≡ r
  pub out_is : args.1.1.1.1.1.1.0.now ≡ out
  pub leaves : lasts.1.1.1.1.1.1.0 ≡ after

-- ---- the examples of such answers

abbrev pub WordHolds : word-examples.Case → Type 1
WordHolds (word-examples.deposits s m w) = (x : Result ℕ Refusal) → Deposits s m x → x ≡ Ok w
WordHolds (word-examples.takes m w) = (s : ℕ) → s < 2 ^ 64 → (x : Result ℕ Refusal) → Deposits s m x → x ≡ Ok (w s)
WordHolds (word-examples.selects n r p) = (x : Result ℕ Refusal) → Selects n r x → x ≡ Ok p
WordHolds (word-examples.refuses n r) = (x : Result ℕ Refusal) → Selects n r x → x ≡ Err (refusal (numbered 9 NoSuchRank refl) no_operand)

abbrev pub ReadHolds : read-examples.Case → Type 1
ReadHolds (read-examples.reads ws s o w) = (x : Result ℕ Refusal) → Reads ws s o x → x ≡ Ok w
ReadHolds (read-examples.refuses ws s o) = (x : Result ℕ Refusal) → Reads ws s o x → x ≡ Err (refusal (numbered 2 StartOver63 refl) no_operand)

abbrev pub CompositionHolds : Case → Type 1
CompositionHolds (gives s r n) = (x : Answer) (after : List ℕ) → Composes s r before x after → (x ≡ Ok (summary 2 (Some n) quarter)) × (after ≡ 66 ∷ 7 ∷ [])

abbrev pub StreamHolds : Fed → Type 1
StreamHolds (feeds one two n m) = (t : Run) → Calls fresh before (one ∷ two ∷ []) t → t ≡ record { answers = keeps_one n ∷ keeps_one m ∷ []; state = state_of 8 5 2; out = (2 ^ 64 - 256 + 66) ∷ 7 ∷ [] }

abbrev pub HoldsOfCalls : Example → Type 1
HoldsOfCalls (word c) = WordHolds c
HoldsOfCalls (read c) = ReadHolds c
HoldsOfCalls (composition c) = CompositionHolds c
HoldsOfCalls (stream c) = StreamHolds c

abbrev pub AllHold : List Example → Type 1
AllHold [] = Unit {1}
AllHold (e ∷ es) = HoldsOfCalls e × AllHold es

-- ---- from the definitions to the calls

deposits_are : {s m : ℕ} {x : Result ℕ Refusal} → Deposits s m x → x ≡ deposited s m (count (bits_of 64 m))
deposits_are d = rw (← d.source_is, ← d.claimed_is, ← d.mask_is) d.allowed

selects_are : {n r : ℕ} {x : Result ℕ Refusal} → Selects n r x → x ≡ selected n r
selects_are d = rw (← d.word_is, ← d.rank_is) d.allowed

reads_are : {ws : List ℕ} {s o : ℕ} {x : Result ℕ Refusal} → Reads ws s o x → x ≡ rank_read ws s o
reads_are d = rw (← d.words_are, ← d.start_is, ← d.offset_is) d.allowed

word_carried : (c : word-examples.Case) → word-examples.Holds c → WordHolds c
word_carried (word-examples.deposits s m w) h = λ x d. deposits_are d ∙ h
word_carried (word-examples.takes m w) h = λ s l x d. deposits_are d ∙ h s l
word_carried (word-examples.selects n r p) h = λ x d. selects_are d ∙ h
word_carried (word-examples.refuses n r) h = λ x d. selects_are d ∙ h

read_carried : (c : read-examples.Case) → read-examples.Holds c → ReadHolds c
read_carried (read-examples.reads ws s o w) h = λ x d. reads_are d ∙ h
read_carried (read-examples.refuses ws s o) h = λ x d. reads_are d ∙ h

composes_are : {s r : Operand} {out : List ℕ} {x : Answer} {after : List ℕ} → Composes s r out x after → (x ≡ composed published s r out) × (after ≡ composed_out s r out)
composes_are d = rw (← d.self_is, ← d.rank_is, ← d.out_is, ← d.leaves) d.allowed

composition_carried : (c : Case) → Holds c → CompositionHolds c
composition_carried (gives s r n) h = λ x after d. (let p = composes_are d in (p.0 ∙ h.0, p.1 ∙ h.1))

carried : (e : Example) → True e → HoldsOfCalls e
carried (word c) h = word_carried c h
carried (read c) h = read_carried c h
carried (composition c) h = composition_carried c h
carried (stream (feeds one two n m)) h = λ t cs. calls_run cs ∙ h

all_carried : (es : List Example) → AllTrue es → AllHold es
all_carried [] h = tt
all_carried (e ∷ es) h = (carried e h.0, all_carried es h.1)

pub document_holds : AllHold document
document_holds = all_carried document examples
