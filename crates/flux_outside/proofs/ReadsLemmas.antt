-- What is asked of an input, read by read, and what is put.
use Rattle.std.proofs.Common.{◌≡◌, ℕ, ◌+◌, ◌<◌, ◌≤◌, List, [], ◌∷◌, ◌++◌, refl, sym, ap, ◌∙◌, append_assoc, arith, subst}
use Rattle.flux_outside.specs.declared.read_outcome.ReadOutcome.{ReadOutcome}
use Rattle.flux_outside.specs.declared.read_outcome.ReadOutcome.TheVariants.{Bytes, Fault}
use Rattle.flux_outside.specs.Reads.{Read, NamedRead, bytes_in, given, AllGave, IsAllowedRead, AreAsked, LastOutcome, reads_by_name, SourceReads, FileReads, AskedOfInput, AllPositive, NoEmptyPut}

-- ---- bytes that were given

pub given-within : (limit : ℕ) (reads : List Read) → AreAsked limit reads → given reads ≤ limit + 1
given-within limit [] asked = omega arith
given-within limit (read ∷ earlier) asked = omega (arith, asked.0.room, asked.0.within, asked.0.fits)

pub given-at_fault : (limit : ℕ) (reads : List Read) → AreAsked limit reads → LastOutcome Fault reads → given reads ≤ limit
given-at_fault limit [] asked last = absurd last
given-at_fault limit (read ∷ earlier) asked last =
    let none : bytes_in read.outcome ≡ 0 = ap bytes_in last in
    omega (arith, asked.0.room, none)

-- ---- read by read

-- so far each read gave something, and they gave so many bytes
pub record Asking (limit bytes : ℕ) (made : List Read → Type 0) : Type 0 where
  pub reads : List Read
  pub are : made reads
  pub count : given reads ≡ bytes
  pub gave : AllGave reads
  pub asks : AreAsked limit reads

pub Asking-source : (limit : ℕ) (old : List Read) → Asking limit 0 (SourceReads old old)
Asking-source limit old = record { reads = []; are = refl; count = refl; gave = tt; asks = tt }

pub Asking-file : (limit : ℕ) (name : List ℕ) (old : List NamedRead) → Asking limit 0 (FileReads name old old)
Asking-file limit name old = record { reads = []; are = refl; count = refl; gave = tt; asks = tt }

-- one more read
abbrev pub asks_next : (limit bytes asked : ℕ) → ReadOutcome → Type 0
asks_next limit bytes asked outcome = IsAllowedRead limit bytes (record { asked = asked; outcome = outcome })

pub source-next : (asked : ℕ) (outcome : ReadOutcome) (old now next reads : List Read) → next ≡ record { asked = asked; outcome = outcome } ∷ now
    → SourceReads old now reads → SourceReads old next (record { asked = asked; outcome = outcome } ∷ reads)
source-next asked outcome old now next reads is so = is ∙ ap (λ l. record { asked = asked; outcome = outcome } ∷ l) so

pub file-next : (asked bytes : ℕ) (outcome : ReadOutcome) (name : List ℕ) (old now next : List NamedRead) (reads : List Read)
    → next ≡ record { name = name; place = bytes; read = record { asked = asked; outcome = outcome } } ∷ now → given reads ≡ bytes
    → FileReads name old now reads → FileReads name old next (record { asked = asked; outcome = outcome } ∷ reads)
file-next asked bytes outcome name old now next reads is count so =
    let read : Read = record { asked = asked; outcome = outcome } in
    is ∙ ap (λ l. record { name = name; place = bytes; read = read } ∷ l) so
    ∙ ap (λ (k : ℕ). record { name = name; place = k; read = read } ∷ (reads_by_name name reads ++ old)) (sym count)

-- that gave something
next_gave : (limit bytes asked : ℕ) (outcome : ReadOutcome) (made next : List Read → Type 0) (so : Asking limit bytes made)
    → next (record { asked = asked; outcome = outcome } ∷ so.reads) → asks_next limit bytes asked outcome → 0 < bytes_in outcome
    → Asking limit (bytes + bytes_in outcome) next
next_gave limit bytes asked outcome made next so are asks some = record {
  reads = record { asked = asked; outcome = outcome } ∷ so.reads;
  are = are;
  count = ap (λ (k : ℕ). k + bytes_in outcome) so.count;
  gave = (some, so.gave);
  asks = (subst (λ (k : ℕ). asks_next limit k asked outcome) (sym so.count) asks, so.gave, so.asks);
}

-- that was the last
next_last : (limit bytes asked : ℕ) (outcome : ReadOutcome) (made next : List Read → Type 0) (at_fault at_end : Type 0) (P : ℕ → Type 0) (so : Asking limit bytes made)
    → next (record { asked = asked; outcome = outcome } ∷ so.reads) → asks_next limit bytes asked outcome
    → (at_fault → (outcome ≡ Fault) × P bytes) → (at_end → outcome ≡ Bytes 0)
    → AskedOfInput limit at_fault at_end P next
next_last limit bytes asked outcome made next at_fault at_end P so are asks fault end =
    let all : AreAsked limit (record { asked = asked; outcome = outcome } ∷ so.reads) =
    (subst (λ (k : ℕ). asks_next limit k asked outcome) (sym so.count) asks, so.gave, so.asks) in
    record {
      reads = record { asked = asked; outcome = outcome } ∷ so.reads;
      are = are;
      input = record { asks = all; within = given-within limit (record { asked = asked; outcome = outcome } ∷ so.reads) all };
      fault = λ h.
          let last = fault h in
          let none : bytes_in outcome ≡ 0 = ap bytes_in last.0 in
          record {
            last = last.0;
            within = given-at_fault limit (record { asked = asked; outcome = outcome } ∷ so.reads) all last.0;
            so = subst P (omega (arith, none, so.count)) last.1;
          };
      end = end;
    }

pub source-gave : (limit bytes asked : ℕ) (outcome : ReadOutcome) (old now next : List Read) → Asking limit bytes (SourceReads old now)
    → next ≡ record { asked = asked; outcome = outcome } ∷ now → asks_next limit bytes asked outcome → 0 < bytes_in outcome
    → Asking limit (bytes + bytes_in outcome) (SourceReads old next)
source-gave limit bytes asked outcome old now next so is asks some =
    next_gave limit bytes asked outcome (SourceReads old now) (SourceReads old next) so (source-next asked outcome old now next so.reads is so.are) asks some

pub source-last : (limit bytes asked : ℕ) (outcome : ReadOutcome) (old now next : List Read) (at_fault at_end : Type 0) (P : ℕ → Type 0) → Asking limit bytes (SourceReads old now)
    → next ≡ record { asked = asked; outcome = outcome } ∷ now → asks_next limit bytes asked outcome
    → (at_fault → (outcome ≡ Fault) × P bytes) → (at_end → outcome ≡ Bytes 0)
    → AskedOfInput limit at_fault at_end P (SourceReads old next)
source-last limit bytes asked outcome old now next at_fault at_end P so is asks fault end =
    next_last limit bytes asked outcome (SourceReads old now) (SourceReads old next) at_fault at_end P so (source-next asked outcome old now next so.reads is so.are) asks fault end

pub file-gave : (limit bytes asked : ℕ) (outcome : ReadOutcome) (name : List ℕ) (old now next : List NamedRead) → Asking limit bytes (FileReads name old now)
    → next ≡ record { name = name; place = bytes; read = record { asked = asked; outcome = outcome } } ∷ now → asks_next limit bytes asked outcome → 0 < bytes_in outcome
    → Asking limit (bytes + bytes_in outcome) (FileReads name old next)
file-gave limit bytes asked outcome name old now next so is asks some =
    next_gave limit bytes asked outcome (FileReads name old now) (FileReads name old next) so (file-next asked bytes outcome name old now next so.reads is so.count so.are) asks some

pub file-last : (limit bytes asked : ℕ) (outcome : ReadOutcome) (name : List ℕ) (old now next : List NamedRead) (at_fault at_end : Type 0) (P : ℕ → Type 0) → Asking limit bytes (FileReads name old now)
    → next ≡ record { name = name; place = bytes; read = record { asked = asked; outcome = outcome } } ∷ now → asks_next limit bytes asked outcome
    → (at_fault → (outcome ≡ Fault) × P bytes) → (at_end → outcome ≡ Bytes 0)
    → AskedOfInput limit at_fault at_end P (FileReads name old next)
file-last limit bytes asked outcome name old now next at_fault at_end P so is asks fault end =
    next_last limit bytes asked outcome (FileReads name old now) (FileReads name old next) at_fault at_end P so (file-next asked bytes outcome name old now next so.reads is so.count so.are) asks fault end

-- nothing was asked
pub nothing_asked : (limit : ℕ) (at_fault at_end : Type 0) (P : ℕ → Type 0) (made : List Read → Type 0) → made [] → ¬ at_fault → ¬ at_end → AskedOfInput limit at_fault at_end P made
nothing_asked limit at_fault at_end P made are no_fault no_end = record {
  reads = [];
  are = are;
  input = record { asks = tt; within = omega arith };
  fault = λ h. absurd (no_fault h);
  end = λ h. absurd (no_end h);
}

-- the same for less that is to be so
pub AskedOfInput-map : (limit : ℕ) (fault fault1 end end1 : Type 0) (P Q : ℕ → Type 0) (made : List Read → Type 0) → (fault1 → fault) → (end1 → end) → ((n : ℕ) → P n → Q n)
    → AskedOfInput limit fault end P made → AskedOfInput limit fault1 end1 Q made
AskedOfInput-map limit fault fault1 end end1 P Q made f e q asked = record {
  reads = asked.reads;
  are = asked.are;
  input = asked.input;
  fault = λ h.
      let fails = asked.fault (f h) in
      record { last = fails.last; within = fails.within; so = q (given asked.reads) fails.so };
  end = λ h. asked.end (e h);
}

-- ---- puts

AllPositive-append : (xs ys : List ℕ) → AllPositive xs → AllPositive ys → AllPositive (xs ++ ys)
AllPositive-append [] ys a b = b
AllPositive-append (x ∷ xs) ys a b = (a.0, AllPositive-append xs ys a.1 b)

pub NoEmptyPut-none : (a : List ℕ) → NoEmptyPut a a
NoEmptyPut-none a = record { since = []; puts = refl; some = tt }

pub NoEmptyPut-one : (a b : List ℕ) (n : ℕ) → b ≡ n ∷ a → 0 < n → NoEmptyPut a b
NoEmptyPut-one a b n is some = record { since = n ∷ []; puts = is; some = (some, tt) }

pub NoEmptyPut-trans : (a b c : List ℕ) → NoEmptyPut a b → NoEmptyPut b c → NoEmptyPut a c
NoEmptyPut-trans a b c p q = record {
  since = q.since ++ p.since;
  puts = q.puts ∙ ap (λ l. q.since ++ l) p.puts ∙ sym (append_assoc q.since p.since a);
  some = AllPositive-append q.since p.since q.some p.some;
}
