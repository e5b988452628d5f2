-- What a call does to handles (own).
use Rattle.std.specs.Prelude.{◌≡◌, ℕ, ◌⊎◌, Bool, Some, None, Option, Result, Ok, Err}
use Rattle.std.specs.declared.boxed.Box.{Box}
use Rattle.std.specs.declared.alloc.Global.{Global}
use Rattle.ksm_base.specs.declared.shape.Shape.{Shape}
use Rattle.ksm_base.specs.Values.{IsShape}
use Rattle.frame_table.specs.Named.{KeeperView}
use Rattle.ksm_ffi.specs.declared.answer.Answer.{Answer}
use Rattle.ksm_ffi.specs.declared.answer.Answer.TheVariants as answer
use Rattle.ksm_ffi.specs.declared.reader.Phase.{Phase}
use Rattle.ksm_ffi.specs.declared.thing.Thing.{Thing}
use Rattle.ksm_ffi.specs.declared.thing.Thing.TheVariants.{Table, Book, Home, Pass}
use Rattle.ksm_base.specs.declared.command.Command.{Command}
use Rattle.ksm_book.specs.Carried.{JournaledBook}
use Rattle.ksm_ffi.specs.declared.request.Request.{Request}
use Rattle.ksm_ffi.specs.declared.request.Made.{Made}
use Rattle.ksm_ffi.specs.Answers.{number_of}
use Rattle.ksm_ffi.specs.Books.{Applies, IsOpening}
use Rattle.ksm_ffi.specs.Homes.{HomeView, Judged, JudgesWhole, LendsNone, all_back, one_back}
use Rattle.ksm_ffi.specs.Opening.{IsNewOf, OpensNot}
use Rattle.ksm_ffi.specs.Passes.{IsIdle}
use Rattle.ksm_ffi.specs.Passes as passes
use Rattle.ksm_ffi.specs.Requests.{commanded}

-- the handle is as it was, and this is why
abbrev pub Keeps : Option Thing → Answer → ℕ → Option Thing → Type 0
Keeps before a n after = (n ≡ number_of a) × (after ≡ before)

-- the pass that a handle stands for
abbrev pub reader_of : Thing → Option Phase
reader_of (Pass v m) = Some v
reader_of (Table v m) = None
reader_of (Book b m) = None
reader_of (Home h) = None

-- a call of a pass: refused where the handle is not open, or stands for something else
abbrev pub OnPass : (Phase → Answer → Phase → Type 0) → Option Thing → ℕ → Option Thing → Type 0
OnPass P None n after = Keeps None answer.Closed n after
OnPass P (Some (Table v m)) n after = Keeps (Some (Table v m)) answer.Kind n after
OnPass P (Some (Book b m)) n after = Keeps (Some (Book b m)) answer.Kind n after
OnPass P (Some (Home h)) n after = Keeps (Some (Home h)) answer.Kind n after
OnPass P (Some (Pass v m)) n after =
    (a : Answer) × (w : Phase) × P v a w × (n ≡ number_of a) × (after ≡ Some (Pass w m))

-- whether a place may be looked up by what a handle stands for
abbrev pub MayLookUp : Thing → ℕ → Type 0
MayLookUp (Pass v m) place = passes.MayLookUp v place
MayLookUp (Table v m) place = ⊥
MayLookUp (Book b m) place = ⊥
MayLookUp (Home h) place = ⊥

-- what is answered by a handle where it may not
abbrev pub why_not_by : Option Thing → Answer
why_not_by None = answer.Closed
why_not_by (Some (Pass v m)) = passes.why_not_of v
why_not_by (Some (Table v m)) = answer.Kind
why_not_by (Some (Book b m)) = answer.Kind
why_not_by (Some (Home h)) = answer.Kind

-- a call of a table's keeper
abbrev pub OnTable : (KeeperView → Answer → KeeperView → Type 0) → Option Thing → ℕ → Option Thing → Type 0
OnTable P None n after = Keeps None answer.Closed n after
OnTable P (Some (Pass v m)) n after = Keeps (Some (Pass v m)) answer.Kind n after
OnTable P (Some (Book b m)) n after = Keeps (Some (Book b m)) answer.Kind n after
OnTable P (Some (Home h)) n after = Keeps (Some (Home h)) answer.Kind n after
OnTable P (Some (Table v m)) n after =
    (a : Answer) × (w : KeeperView) × P v a w × (n ≡ number_of a) × (after ≡ Some (Table w m))

-- a call of a book
abbrev pub OnBook : (JournaledBook → Answer → JournaledBook → Type 0) → Option Thing → ℕ → Option Thing → Type 0
OnBook P None n after = Keeps None answer.Closed n after
OnBook P (Some (Pass v m)) n after = Keeps (Some (Pass v m)) answer.Kind n after
OnBook P (Some (Table v m)) n after = Keeps (Some (Table v m)) answer.Kind n after
OnBook P (Some (Home h)) n after = Keeps (Some (Home h)) answer.Kind n after
OnBook P (Some (Book b m)) n after =
    (a : Answer) × (w : JournaledBook) × P b a w × (n ≡ number_of a) × (after ≡ Some (Book w m))

-- what is told of a book, which is as it was
abbrev pub SeesBook : (JournaledBook → Answer → Type 0) → JournaledBook → Answer → JournaledBook → Type 0
SeesBook P b a w = P b a × (w ≡ b)

-- a command that C gave is done; refused where there is none of its kind
abbrev pub AppliesSome : JournaledBook → Option Command → Answer → Made → JournaledBook → Type 0
AppliesSome b (Some c) a made w = Applies b c a made w
AppliesSome b None a made w = (a ≡ answer.Command) × (w ≡ b)

abbrev pub AppliesRequest : JournaledBook → Request → Answer → Made → JournaledBook → Type 0
AppliesRequest b r a made w = AppliesSome b (commanded r) a made w

-- a keeper that has made no step, on a table of this shape and number of which no pass is out
abbrev pub IsNewTable : Shape → ℕ → Thing → Thing → Type 0
IsNewTable sh number t p =
    (v : KeeperView) × IsNewOf sh v × (t ≡ Table v number) × (p ≡ Home (all_back v.table number))

-- an opening book, with its journal kept or counted, on a table of this shape and number of which no pass is out
abbrev pub IsNewBook : Bool → Shape → ℕ → Thing → Thing → Type 0
IsNewBook keeps sh number t p =
    (b : JournaledBook) × IsOpening sh keeps b × (t ≡ Book b number) × (p ≡ Home (all_back b.keeper.table number))

-- a table and its passes are made, each in a box
abbrev pub MakesTable : Shape → ℕ → Result (Box Thing Global × Box Thing Global) Answer → Type 0
MakesTable sh number (Ok r) = IsShape sh × IsNewTable sh number r.0.value r.1.value
MakesTable sh number (Err a) = OpensNot sh a

-- a book and the passes of its table are made, each in a box
abbrev pub MakesBook : Shape → Bool → ℕ → Result (Box Thing Global × Box Thing Global) Answer → Type 0
MakesBook sh keeps number (Ok r) = IsShape sh × IsNewBook keeps sh number r.0.value r.1.value
MakesBook sh keeps number (Err a) = OpensNot sh a

-- both handles are as they were, and this is why
abbrev pub KeepsBoth : Option Thing → Option Thing → Answer → ℕ → Option Thing → Option Thing → Type 0
KeepsBoth t p a n table passes = (n ≡ number_of a) × (table ≡ t) × (passes ≡ p)

-- what is made is opened at two handles that are not open: the one for its keeper or book, the other for its passes
abbrev pub OpensOf : (Shape → ℕ → Thing → Thing → Type 0) → Shape → ℕ → Option Thing → Option Thing
    → ℕ → Option Thing → Option Thing → Type 0
OpensOf IsNew sh number (Some x) p n table passes = KeepsBoth (Some x) p answer.Open n table passes
OpensOf IsNew sh number None (Some y) n table passes = KeepsBoth None (Some y) answer.Open n table passes
OpensOf IsNew sh number None None n table passes =
    (IsShape sh × ((x y : Thing) × IsNew sh number x y × (n ≡ number_of answer.Done)
    × (table ≡ Some x) × (passes ≡ Some y)))
    ⊎ ((a : Answer) × OpensNot sh a × KeepsBoth None None a n table passes)

-- whether a table or a book may be closed with these passes: they are its own, and none is out
abbrev pub JudgesClose : Thing → Thing → Answer → Type 0
JudgesClose (Table v m) (Home h) a = JudgesWhole h m a
JudgesClose (Book b m) (Home h) a = JudgesWhole h m a
JudgesClose _ _ a = a ≡ answer.Kind

-- both are closed if the answer is Done, and else they are as they were
abbrev pub CloseIf : Answer → Thing → Thing → Option Thing → Option Thing → Type 0
CloseIf answer.Done t p table passes = (table ≡ None) × (passes ≡ None)
CloseIf a t p table passes = (table ≡ Some t) × (passes ≡ Some p)

-- a table, or a book with its table, is closed where no pass of it is out, and only there
abbrev pub Closes : Option Thing → Option Thing → ℕ → Option Thing → Option Thing → Type 0
Closes None p n table passes = KeepsBoth None p answer.Closed n table passes
Closes (Some t) None n table passes = KeepsBoth (Some t) None answer.Closed n table passes
Closes (Some t) (Some p) n table passes =
    (a : Answer) × JudgesClose t p a × (n ≡ number_of a) × CloseIf a t p table passes

-- a box with the last of the passes that are not out, which holds nothing, and the table's number; it is out then
abbrev pub LendsBox : HomeView → Result (Box Thing Global) Answer → HomeView → Type 0
LendsBox h (Ok b) after = (v : Phase) × IsIdle v × (h ≡ one_back after v) × (b.value ≡ Pass v h.number)
LendsBox h (Err a) after = LendsNone h a after

-- the same by what a handle stands for: refused where that is no passes
abbrev pub LendsThing : Thing → Result (Box Thing Global) Answer → Thing → Type 0
LendsThing (Home h) r after = (k : HomeView) × LendsBox h r k × (after ≡ Home k)
LendsThing x r after = (r ≡ Err answer.Kind) × (after ≡ x)

-- the last of the passes that are not out is opened, which is out then; or none is, since all are out, or for memory
abbrev pub OpensOne : HomeView → ℕ → HomeView → Option Thing → Type 0
OpensOne h n after pass =
    ((v : Phase) × IsIdle v × (h ≡ one_back after v) × (n ≡ number_of answer.Done) × (pass ≡ Some (Pass v h.number)))
    ⊎ ((a : Answer) × LendsNone h a after × Keeps None a n pass)

-- a pass is opened at a handle that is not open
abbrev pub OpensPass : Option Thing → Option Thing → ℕ → Option Thing → Option Thing → Type 0
OpensPass p (Some x) n passes pass = KeepsBoth p (Some x) answer.Open n passes pass
OpensPass None None n passes pass = KeepsBoth None None answer.Closed n passes pass
OpensPass (Some (Home h)) None n passes pass = (k : HomeView) × OpensOne h n k pass × (passes ≡ Some (Home k))
OpensPass (Some x) None n passes pass = KeepsBoth (Some x) None answer.Kind n passes pass

-- whether what a handle stands for may come back to what another stands for, as a pass to the passes of its table
abbrev pub JudgesBack : Thing → Thing → Answer → Type 0
JudgesBack (Home h) (Pass v m) a = Judged h v m a
JudgesBack _ _ a = a ≡ answer.Kind

-- a pass is back
abbrev pub IsGivenBack : Thing → Thing → Thing → Type 0
IsGivenBack (Home h) (Pass v m) after = after ≡ Home (one_back h v)
IsGivenBack _ _ after = ⊥

-- the answer is the reason; the pass is back if it is Done, and else both are as they were
abbrev pub GoesBack : Thing → Thing → Answer → Option Thing → Option Thing → Type 0
GoesBack t p answer.Done passes pass = ((u : Thing) × IsGivenBack t p u × (passes ≡ Some u)) × (pass ≡ None)
GoesBack t p a passes pass = (passes ≡ Some t) × (pass ≡ Some p)

-- a pass comes back to the passes of its table
abbrev pub ClosesPass : Option Thing → Option Thing → ℕ → Option Thing → Option Thing → Type 0
ClosesPass t None n passes pass = KeepsBoth t None answer.Closed n passes pass
ClosesPass None (Some p) n passes pass = KeepsBoth None (Some p) answer.Closed n passes pass
ClosesPass (Some t) (Some p) n passes pass =
    (a : Answer) × JudgesBack t p a × (n ≡ number_of a) × GoesBack t p a passes pass
