pub mod LoneModuleIds
pub mod QuestionAnswers
pub mod AnswerExterns
pub mod FunctionIds
pub mod ItemReports
pub mod Verdicts
