-- Words with a fault ask for nothing, and have no other.
use Rattle.std.proofs.Common.{◌≡◌, ◌≢◌, ℕ, List, refl, sym, ap, ◌∙◌, subst, ◌⊎◌, inl, inr}
use Rattle.lr_commands.specs.declared.request.Request.{Request}
use Rattle.lr_frames.proofs.FaultLaws.{no_call_fault, one_fault}
use Rattle.lr_frames.specs.Faults.{IsCallFault}
use Rattle.lr_frames.specs.declared.fault.OpFault.{OpFault}
use Rattle.lr_frames.specs.declared.fault.OpFault.TheVariants as calls
use Rattle.lr_requests.proofs.AskedLaws.{IsFaultless, faultless}
use Rattle.lr_requests.proofs.CommandLaws.{small_word-injective, small_word-apart}
use Rattle.lr_requests.specs.Command.{IsWordOf, IsWriteWordOf}
use Rattle.lr_requests.specs.Frame.{WordsAsk}
use Rattle.lr_requests.specs.Laws.{FaultIsNoRequest, FaultIsOne}
use Rattle.lr_requests.specs.Refusal.{Fits, NamesChannels, HasPlaces, call_fault, IsFcallFault, IsPlainFault, IsArgumentsFault, IsWordsFault}
use Rattle.lr_requests.specs.Request.{Asks}
use Rattle.lr_requests.specs.declared.command.Command.{Command}
use Rattle.lr_requests.specs.declared.command.Command.TheVariants.{Call, Look, Subscribe, Unsubscribe, Ping, Quit}
use Rattle.lr_requests.specs.declared.fault.CommandFault.{CommandFault}
use Rattle.lr_requests.specs.declared.fault.CommandFault.TheVariants.{NotARequest, NotWritable, UnknownCommand, WrongArguments, NotFunction, BadChannel, BadName, BadNumber, NoMemory}
use Rattle.lr_requests.specs.declared.write_command.WriteCommand.{WriteCommand}

-- A fault of FCALL is that of its call.

CallFaultOf : CommandFault → List (List ℕ) → Type 0
CallFaultOf fault arguments = (call : OpFault) × (fault ≡ call_fault call) × IsCallFault call arguments

fcall_fault : (fault : CommandFault) (arguments : List (List ℕ)) → fault ≢ NoMemory
    → IsFcallFault fault arguments → CallFaultOf fault arguments
unfolding CallFaultOf
fcall_fault NotARequest arguments memory bad = absurd bad
fcall_fault NotWritable arguments memory bad = absurd bad
fcall_fault UnknownCommand arguments memory bad = absurd bad
fcall_fault WrongArguments arguments memory bad = (calls.WrongArguments, refl, bad)
fcall_fault NotFunction arguments memory bad = (calls.NotFunction, refl, bad)
fcall_fault BadChannel arguments memory bad = absurd bad
fcall_fault BadName arguments memory bad = (calls.BadName, refl, bad)
fcall_fault BadNumber arguments memory bad = (calls.BadNumber, refl, bad)
fcall_fault NoMemory arguments memory bad = absurd (memory refl)

one_fcall_fault : (fault other : CommandFault) (arguments : List (List ℕ)) → fault ≢ NoMemory
    → other ≢ NoMemory → IsFcallFault fault arguments → IsFcallFault other arguments → fault ≡ other
unfolding CallFaultOf
one_fcall_fault fault other arguments memory also a b =
    let x = fcall_fault fault arguments memory a in
    let y = fcall_fault other arguments also b in
    x.1 ∙ ap call_fault (one_fault x.0 y.0 arguments x.2 y.2) ∙ sym y.1

no_fcall : (fault : CommandFault) (arguments : List (List ℕ)) (request : Request)
    → fault ≢ NoMemory → IsFcallFault fault arguments → ¬ (Asks Call arguments request)
unfolding CallFaultOf
no_fcall fault arguments request memory bad asked =
    let x = fcall_fault fault arguments memory bad in
    no_call_fault x.0 arguments x.2 asked.0 asked.1 asked.2

-- A fault of any other command is one of three.

PlainFaultOf : CommandFault → Command → List (List ℕ) → Type 0
PlainFaultOf fault command arguments = ((fault ≡ WrongArguments) × ¬ (Fits command arguments))
    ⊎ (((fault ≡ BadChannel) × Fits command arguments × ¬ (NamesChannels command arguments))
    ⊎ ((fault ≡ BadNumber) × Fits command arguments × ¬ (HasPlaces command arguments)))

plain_fault : (fault : CommandFault) (command : Command) (arguments : List (List ℕ))
    → fault ≢ NoMemory → IsPlainFault fault command arguments → PlainFaultOf fault command arguments
unfolding PlainFaultOf
plain_fault NotARequest command arguments memory bad = absurd bad
plain_fault NotWritable command arguments memory bad = absurd bad
plain_fault UnknownCommand command arguments memory bad = absurd bad
plain_fault WrongArguments command arguments memory bad = inl (refl, bad)
plain_fault NotFunction command arguments memory bad = absurd bad
plain_fault BadChannel command arguments memory bad = inr (inl (refl, bad.0, bad.1))
plain_fault BadName command arguments memory bad = absurd bad
plain_fault BadNumber command arguments memory bad = inr (inr (refl, bad.0, bad.1))
plain_fault NoMemory command arguments memory bad = absurd (memory refl)

-- no command has both channels and places
apart : (command : Command) (arguments : List (List ℕ))
    → NamesChannels command arguments ⊎ HasPlaces command arguments
apart (Look command) arguments = inl tt
apart Call arguments = inr tt
apart Subscribe arguments = inr tt
apart Unsubscribe arguments = inr tt
apart Ping arguments = inr tt
apart Quit arguments = inr tt

clash : (command : Command) (arguments : List (List ℕ)) → ¬ (NamesChannels command arguments)
    → ¬ (HasPlaces command arguments) → ⊥
clash command arguments unnamed unplaced =
    elim (apart command arguments) [ inl named ↦ unnamed named | inr placed ↦ unplaced placed ]

same_plain : (fault other : CommandFault) (command : Command) (arguments : List (List ℕ))
    → PlainFaultOf fault command arguments → PlainFaultOf other command arguments → fault ≡ other
unfolding PlainFaultOf
same_plain fault other command arguments (inl a) (inl b) = a.0 ∙ sym b.0
same_plain fault other command arguments (inl a) (inr (inl b)) = absurd (a.1 b.1)
same_plain fault other command arguments (inl a) (inr (inr b)) = absurd (a.1 b.1)
same_plain fault other command arguments (inr (inl a)) (inl b) = absurd (b.1 a.1)
same_plain fault other command arguments (inr (inl a)) (inr (inl b)) = a.0 ∙ sym b.0
same_plain fault other command arguments (inr (inl a)) (inr (inr b)) =
    absurd (clash command arguments a.2 b.2)
same_plain fault other command arguments (inr (inr a)) (inl b) = absurd (b.1 a.1)
same_plain fault other command arguments (inr (inr a)) (inr (inl b)) =
    absurd (clash command arguments b.2 a.2)
same_plain fault other command arguments (inr (inr a)) (inr (inr b)) = a.0 ∙ sym b.0

one_plain_fault : (fault other : CommandFault) (command : Command) (arguments : List (List ℕ))
    → fault ≢ NoMemory → other ≢ NoMemory → IsPlainFault fault command arguments
    → IsPlainFault other command arguments → fault ≡ other
one_plain_fault fault other command arguments memory also a b =
    same_plain fault other command arguments
    (plain_fault fault command arguments memory a) (plain_fault other command arguments also b)

no_case : (fault : CommandFault) (command : Command) (arguments : List (List ℕ))
    → IsFaultless command arguments → ¬ (PlainFaultOf fault command arguments)
unfolding PlainFaultOf
no_case fault command arguments fine (inl a) = a.1 fine.fits
no_case fault command arguments fine (inr (inl a)) = a.2 fine.named
no_case fault command arguments fine (inr (inr a)) = a.2 fine.placed

no_plain : (fault : CommandFault) (command : Command) (arguments : List (List ℕ)) (request : Request)
    → command ≢ Call → fault ≢ NoMemory → IsPlainFault fault command arguments
    → ¬ (Asks command arguments request)
no_plain fault command arguments request other memory bad asked =
    no_case fault command arguments (faultless command arguments request other asked)
    (plain_fault fault command arguments memory bad)

-- A fault of the arguments of a command.

one_arguments_fault : (fault other : CommandFault) (command : Command) (arguments : List (List ℕ))
    → fault ≢ NoMemory → other ≢ NoMemory → IsArgumentsFault fault command arguments
    → IsArgumentsFault other command arguments → fault ≡ other
one_arguments_fault fault other Call arguments memory also a b =
    one_fcall_fault fault other arguments memory also a b
one_arguments_fault fault other (Look command) arguments memory also a b =
    one_plain_fault fault other (Look command) arguments memory also a b
one_arguments_fault fault other Subscribe arguments memory also a b =
    one_plain_fault fault other Subscribe arguments memory also a b
one_arguments_fault fault other Unsubscribe arguments memory also a b =
    one_plain_fault fault other Unsubscribe arguments memory also a b
one_arguments_fault fault other Ping arguments memory also a b =
    one_plain_fault fault other Ping arguments memory also a b
one_arguments_fault fault other Quit arguments memory also a b =
    one_plain_fault fault other Quit arguments memory also a b

no_arguments_fault : (fault : CommandFault) (command : Command) (arguments : List (List ℕ))
    (request : Request) → fault ≢ NoMemory → IsArgumentsFault fault command arguments
    → ¬ (Asks command arguments request)
no_arguments_fault fault Call arguments request memory bad =
    no_fcall fault arguments request memory bad
no_arguments_fault fault (Look command) arguments request memory bad =
    no_plain fault (Look command) arguments request (λ e. cc) memory bad
no_arguments_fault fault Subscribe arguments request memory bad =
    no_plain fault Subscribe arguments request (λ e. cc) memory bad
no_arguments_fault fault Unsubscribe arguments request memory bad =
    no_plain fault Unsubscribe arguments request (λ e. cc) memory bad
no_arguments_fault fault Ping arguments request memory bad =
    no_plain fault Ping arguments request (λ e. cc) memory bad
no_arguments_fault fault Quit arguments request memory bad =
    no_plain fault Quit arguments request (λ e. cc) memory bad

-- A fault of words is one of three too: the command writes, it is unknown, or its arguments are bad.

Written : List ℕ → Type 0
Written word = (command : WriteCommand) × IsWriteWordOf command word

Unknown : List ℕ → Type 0
Unknown word = ((command : WriteCommand) → ¬ (IsWriteWordOf command word))
    × ((command : Command) → ¬ (IsWordOf command word))

Refused : CommandFault → List ℕ → List (List ℕ) → Type 0
Refused fault word arguments =
    (command : Command) × IsWordOf command word × IsArgumentsFault fault command arguments

WordsFaultOf : CommandFault → List ℕ → List (List ℕ) → Type 0
WordsFaultOf fault word arguments = ((fault ≡ NotWritable) × Written word)
    ⊎ (((fault ≡ UnknownCommand) × Unknown word) ⊎ Refused fault word arguments)

words_fault : (fault : CommandFault) (word : List ℕ) (arguments : List (List ℕ))
    → IsWordsFault fault word arguments → WordsFaultOf fault word arguments
unfolding WordsFaultOf Written Unknown Refused
words_fault NotARequest word arguments bad = absurd bad
words_fault NotWritable word arguments bad = inl (refl, bad)
words_fault UnknownCommand word arguments bad = inr (inl (refl, bad))
words_fault WrongArguments word arguments bad = inr (inr bad)
words_fault NotFunction word arguments bad = inr (inr bad)
words_fault BadChannel word arguments bad = inr (inr bad)
words_fault BadName word arguments bad = inr (inr bad)
words_fault BadNumber word arguments bad = inr (inr bad)
words_fault NoMemory word arguments bad = inr (inr bad)

-- a word that writes is no command's
written_apart : (word : List ℕ) (command : Command) → Written word → ¬ (IsWordOf command word)
unfolding Written
written_apart word command a is = small_word-apart a.0 command (sym a.1 ∙ is)

one_refused : (fault other : CommandFault) (word : List ℕ) (arguments : List (List ℕ))
    → fault ≢ NoMemory → other ≢ NoMemory → Refused fault word arguments
    → Refused other word arguments → fault ≡ other
unfolding Refused
one_refused fault other word arguments memory also (command, is, a) (command', is', b) =
    let same = small_word-injective command' command (sym is' ∙ is) in
    one_arguments_fault fault other command arguments memory also a
    (subst (λ c. IsArgumentsFault other c arguments) same b)

same_words_fault : (fault other : CommandFault) (word : List ℕ) (arguments : List (List ℕ))
    → fault ≢ NoMemory → other ≢ NoMemory → WordsFaultOf fault word arguments
    → WordsFaultOf other word arguments → fault ≡ other
unfolding WordsFaultOf Written Unknown Refused
same_words_fault fault other word arguments memory also (inl a) (inl b) = a.0 ∙ sym b.0
same_words_fault fault other word arguments memory also (inl a) (inr (inl b)) =
    absurd (b.1.0 a.1.0 a.1.1)
same_words_fault fault other word arguments memory also (inl a) (inr (inr b)) =
    absurd (written_apart word b.0 a.1 b.1)
same_words_fault fault other word arguments memory also (inr (inl a)) (inl b) =
    absurd (a.1.0 b.1.0 b.1.1)
same_words_fault fault other word arguments memory also (inr (inl a)) (inr (inl b)) = a.0 ∙ sym b.0
same_words_fault fault other word arguments memory also (inr (inl a)) (inr (inr b)) =
    absurd (a.1.1 b.0 b.1)
same_words_fault fault other word arguments memory also (inr (inr a)) (inl b) =
    absurd (written_apart word a.0 b.1 a.1)
same_words_fault fault other word arguments memory also (inr (inr a)) (inr (inl b)) =
    absurd (b.1.1 a.0 a.1)
same_words_fault fault other word arguments memory also (inr (inr a)) (inr (inr b)) =
    one_refused fault other word arguments memory also a b

pub fault_is_one : FaultIsOne
fault_is_one word arguments fault other memory also a b =
    same_words_fault fault other word arguments memory also
    (words_fault fault word arguments a) (words_fault other word arguments b)

no_words_fault : (fault : CommandFault) (word : List ℕ) (arguments : List (List ℕ)) (request : Request)
    → fault ≢ NoMemory → WordsFaultOf fault word arguments → ¬ (WordsAsk word arguments request)
unfolding WordsFaultOf Unknown Refused
no_words_fault fault word arguments request memory (inl a) asked =
    written_apart word asked.0 a.1 asked.1
no_words_fault fault word arguments request memory (inr (inl a)) asked = a.1.1 asked.0 asked.1
no_words_fault fault word arguments request memory (inr (inr (command, is, bad))) asked =
    let same = small_word-injective asked.0 command (sym asked.1 ∙ is) in
    no_arguments_fault fault command arguments request memory bad
    (subst (λ c. Asks c arguments request) same asked.2)

pub fault_is_no_request : FaultIsNoRequest
fault_is_no_request word arguments fault request memory bad =
    no_words_fault fault word arguments request memory (words_fault fault word arguments bad)
