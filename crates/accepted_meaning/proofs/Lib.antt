pub mod StaticParts
pub mod StaticScopes
pub mod StaticNodes
pub mod StaticValues
pub mod StaticEnds
pub mod StaticCalls
pub mod TextLists
pub mod StaticHomes
pub mod StaticInside
pub mod StaticConditions
pub mod StaticGroups
pub mod StaticKept
pub mod StaticSteps
pub mod FitsWords
pub mod FitsTruths
mod KnownRules
mod KnownTrees
mod KnownScopes
mod KnownForms
mod KnownAround
mod KnownTexts
mod KnownDefined
mod KnownVariables
mod KnownAll
pub mod FitsKept
pub mod FitsForms
pub mod FitsCalls
pub mod FitsScopes
pub mod FitsDefined
mod KnownOutputs
mod KnownReads
pub mod FitsStates
pub mod Fits
pub mod FitsInterfaces
pub mod FitsTexts
mod KnownSame
pub mod TextApart
pub mod FitsMoves
pub mod FitsRuns
mod TextTrees
mod TextPlaces
mod TextClocks
pub mod SentSites
mod KnownLaw
mod KnownInside
mod KnownMoves
mod KnownCarried
mod KnownReached
pub mod TextPieces
pub mod TextLefts
pub mod SentRows
pub mod SentBodies
mod SentLaw
pub mod TextSites
pub mod SentOutputs
pub mod TextLaws
pub mod TextExample
pub mod StaticReplies
