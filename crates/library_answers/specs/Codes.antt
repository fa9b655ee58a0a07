-- The numbers of answers (this profile's own).
use Rattle.std.specs.Prelude.{ℕ}
use Rattle.library_answers.specs.declared.code.Code.{Code}
use Rattle.library_answers.specs.declared.code.Code.TheVariants.{Done, Room, State, Late, Absent, Heard, Closed, Line, FrameEmpty, FrameTooLong, TextAddress, TextName, TextTooLong, TextCount, TextOperand, EdidLength, EdidCount, EdidHeader, EdidChecksum, EdidRevision, EdidMaker, EdidFirst, EdidSecond, EdidThird, EdidNoHdmiBlock, EdidTextSyntax, EdidTextField, Memory, TopologyWord, TopologyNumber, TopologyName, TopologyFull, TopologySecondRoot, TopologyNoRoot, TopologyPortRange, TopologyPortTaken, TopologyNotLoose, TopologyLoop, TopologyHex, ScriptWord, ScriptNumber, ScriptName, ScriptWidth, ScriptOrder, ScriptClose, ScriptTooMany, ScriptEnd, ScriptHex, ExpectWord, ExpectNumber, ExpectLabel, ExpectOrder, EdgesLine, EdgesOrder}

abbrev pub number_of : Code → ℕ
number_of Done = 0
number_of Room = 1
number_of State = 2
number_of Late = 3
number_of Absent = 4
number_of Heard = 5
number_of Closed = 6
number_of Line = 7
number_of FrameEmpty = 10
number_of FrameTooLong = 11
number_of TextAddress = 20
number_of TextName = 21
number_of TextTooLong = 22
number_of TextCount = 23
number_of TextOperand = 24
number_of EdidLength = 30
number_of EdidCount = 31
number_of EdidHeader = 32
number_of EdidChecksum = 33
number_of EdidRevision = 34
number_of EdidMaker = 35
number_of EdidFirst = 36
number_of EdidSecond = 37
number_of EdidThird = 38
number_of EdidNoHdmiBlock = 39
number_of EdidTextSyntax = 40
number_of EdidTextField = 41
number_of Memory = 50
number_of TopologyWord = 60
number_of TopologyNumber = 61
number_of TopologyName = 62
number_of TopologyFull = 63
number_of TopologySecondRoot = 64
number_of TopologyNoRoot = 65
number_of TopologyPortRange = 66
number_of TopologyPortTaken = 67
number_of TopologyNotLoose = 68
number_of TopologyLoop = 69
number_of TopologyHex = 70
number_of ScriptWord = 80
number_of ScriptNumber = 81
number_of ScriptName = 82
number_of ScriptWidth = 83
number_of ScriptOrder = 84
number_of ScriptClose = 85
number_of ScriptTooMany = 86
number_of ScriptEnd = 87
number_of ScriptHex = 88
number_of ExpectWord = 90
number_of ExpectNumber = 91
number_of ExpectLabel = 92
number_of ExpectOrder = 93
number_of EdgesLine = 100
number_of EdgesOrder = 101
