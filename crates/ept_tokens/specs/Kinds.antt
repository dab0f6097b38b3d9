-- Kinds of tokens, compared by number.
use Rattle.std.specs.Prelude.{ℕ, ◌==◌, Bool, List, [], ◌∷◌}
use Rattle.ept_tokens.specs.declared.token.Kind.{Kind}
use Rattle.ept_tokens.specs.declared.token.Kind.TheVariants.{Number, Lower, Upper, OpenParen, CloseParen, Comma, Semicolon, Colon, Bar, Equal, Differ, Less, AtMost, Greater, AtLeast, OpenAngle, CloseAngle, Plus, Minus, Times, Divide, Percent, Arrow, Both, Bang, Async, Automaton, Bool as Bool_word, Continue, Do, Else, End, Every, False, Fby, Future, If, In as In_word, Int, Last, Let, Merge, Mod, Node, Not, Or, Pre, Reset, Returns, State, Switch, Tel, Then, True, «Type» as Type_word, Unless, Until, Var, When, Whenot}

abbrev pub number_of : Kind → ℕ
number_of Number = 0
number_of Lower = 1
number_of Upper = 2
number_of OpenParen = 3
number_of CloseParen = 4
number_of Comma = 5
number_of Semicolon = 6
number_of Colon = 7
number_of Bar = 8
number_of Equal = 9
number_of Differ = 10
number_of Less = 11
number_of AtMost = 12
number_of Greater = 13
number_of AtLeast = 14
number_of OpenAngle = 15
number_of CloseAngle = 16
number_of Plus = 17
number_of Minus = 18
number_of Times = 19
number_of Divide = 20
number_of Percent = 21
number_of Arrow = 22
number_of Both = 23
number_of Bang = 24
number_of Async = 25
number_of Automaton = 26
number_of Bool_word = 27
number_of Continue = 28
number_of Do = 29
number_of Else = 30
number_of End = 31
number_of Every = 32
number_of False = 33
number_of Fby = 34
number_of Future = 35
number_of If = 36
number_of In_word = 37
number_of Int = 38
number_of Last = 39
number_of Let = 40
number_of Merge = 41
number_of Mod = 42
number_of Node = 43
number_of Not = 44
number_of Or = 45
number_of Pre = 46
number_of Reset = 47
number_of Returns = 48
number_of State = 49
number_of Switch = 50
number_of Tel = 51
number_of Then = 52
number_of True = 53
number_of Type_word = 54
number_of Unless = 55
number_of Until = 56
number_of Var = 57
number_of When = 58
number_of Whenot = 59

abbrev pub is : Kind → Kind → Bool
is a b = number_of a == number_of b

abbrev pub kinds : List Kind
kinds = Number ∷ Lower ∷ Upper ∷ OpenParen ∷ CloseParen ∷ Comma ∷ Semicolon ∷ Colon ∷ Bar ∷ Equal ∷ Differ ∷ Less ∷ AtMost ∷ Greater ∷ AtLeast ∷ OpenAngle ∷ CloseAngle ∷ Plus ∷ Minus ∷ Times ∷ Divide ∷ Percent ∷ Arrow ∷ Both ∷ Bang ∷ Async ∷ Automaton ∷ Bool_word ∷ Continue ∷ Do ∷ Else ∷ End ∷ Every ∷ False ∷ Fby ∷ Future ∷ If ∷ In_word ∷ Int ∷ Last ∷ Let ∷ Merge ∷ Mod ∷ Node ∷ Not ∷ Or ∷ Pre ∷ Reset ∷ Returns ∷ State ∷ Switch ∷ Tel ∷ Then ∷ True ∷ Type_word ∷ Unless ∷ Until ∷ Var ∷ When ∷ Whenot ∷ []
